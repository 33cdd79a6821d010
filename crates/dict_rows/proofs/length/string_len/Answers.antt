use Rattle.std.proofs.Common.{◌≡◌, ◌∷◌, [], ◌++◌, ◌∙◌, sym, ap, arith}
use Rattle.std.specs.List.{flat_map}
use Rattle.std.specs.Str.{chars}
use Rattle.std.specs.Str.Iter.{chars_rest}
use Rattle.std.proofs.lemmas.Str.{Chars-Drains, encodes-chars}
use Rattle.skk_text.specs.Text.{byte_len}
use Rattle.skk_calls.specs.Canonical.{char_in_string}
use Rattle.dict_rows.proofs.Lengths.{piece_more, quotes, quotes_first}
use Rattle.dict_rows.proofs.length.string_len.Goals as goal

pub loop-c-preserved : goal.loop-c-preserved
loop-c-preserved c =
    let so_far = c.loop-c.yielded in
    let more = so_far ++ c.in-Some.c ∷ [] in
    omega (
      arith,
      quotes_first (flat_map char_in_string so_far),
      quotes_first (flat_map char_in_string more),
      piece_more char_in_string so_far c.in-Some.c,
      c.loop-c.invariant,
      c.char_len.ensures,
      c.saturating_add-bytes.ensures,
    )

-- the loop ends where each character was taken
pub returns : goal.returns
returns c =
    let text = c.as_str.result.now in
    let all : c.loop-c.yielded ≡ c.args.text.now =
    Chars-Drains (chars text) c.loop-c.yielded c.into_iter-c-iterator.result
    (encodes-chars text c.as_str.utf8
    ∙ sym (ap chars_rest c.into_iter-c-iterator.ensures.into_iter_gives ∙ c.chars-c-items.ensures.rest))
    (c.next.new.self, (c.loop-c.c-iterator, c.loop-c.yielded_by, c.in-None.ensures.steps))
    ∙ c.as_str.ensures.characters in
    omega (
      arith,
      quotes_first (flat_map char_in_string c.loop-c.yielded),
      quotes c.args.text.now,
      ap (λ cs. byte_len (flat_map char_in_string cs)) all,
      c.loop-c.invariant,
    )
