use Rattle.std.proofs.Common.{◌∙◌, refl, sym, ap}
use Rattle.std.specs.Str.Iter.{chars_rest}
use Rattle.std.proofs.lemmas.Str.{Chars-Drains, encodes-chars}
use Rattle.dict_format.proofs.printing.push_characters.Goals as goal

-- the loop ends where each character was taken
pub returns : goal.returns
returns c =
    rw (
      c.loop-c.invariant,
      Chars-Drains _ c.loop-c.yielded c.into_iter-c-iterator.result
          (encodes-chars c.as_str.result.now c.as_str.utf8
          ∙ sym (ap chars_rest c.into_iter-c-iterator.ensures.into_iter_gives ∙ c.chars-c-items.ensures.rest))
          (c.next.new.self, (c.loop-c.c-iterator, c.loop-c.yielded_by, c.in-None.ensures.steps)),
      c.as_str.ensures.characters,
    ) refl
