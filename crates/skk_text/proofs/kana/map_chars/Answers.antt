use Rattle.std.proofs.Common.{◌∙◌, sym, ap, map}
use Rattle.std.specs.Str.{chars}
use Rattle.std.specs.Str.Iter.{chars_rest}
use Rattle.std.proofs.lemmas.Str.{Chars-Drains, encodes-chars}
use Rattle.skk_text.proofs.kana.map_chars.Goals as goal

-- the loop ends where each character was taken
pub returns : goal.returns
returns g c =
    let text = c.as_str.result.now in
    c.loop-c.invariant
    ∙ ap (map g.M.CharMap.mapped) (Chars-Drains (chars text) c.loop-c.yielded c.into_iter-c-iterator.result
    (encodes-chars text c.as_str.utf8
    ∙ sym (ap chars_rest c.into_iter-c-iterator.ensures.into_iter_gives ∙ c.chars-c-items.ensures.rest))
    (c.next.new.self, (c.loop-c.c-iterator, c.loop-c.yielded_by, c.in-None.ensures.steps)))
    ∙ ap (map g.M.CharMap.mapped) c.as_str.ensures.characters
