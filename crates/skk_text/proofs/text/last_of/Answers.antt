use Rattle.std.proofs.Common.{◌∙◌, ◌-◌, ◌≡◌, length, arith, ap, encode_utf8_all}
use Rattle.std.specs.Str.{chars}
use Rattle.std.proofs.lemmas.Str.{encodes-chars, encodes_same}
use Rattle.skk_text.specs.Text.{last_chars}
use Rattle.skk_text.proofs.Characters.{IsCharBoundary-split, drop-split}
use Rattle.skk_text.proofs.text.last_of.Goals as goal

pub range_from-requires : goal.range_from-requires
range_from-requires c =
    λ _. IsCharBoundary-split c.args.text.now c.loop.prefix.now (length (chars c.args.text.now) - c.loop.counter)
    c.utf8.text c.loop.invariant.utf8 c.loop.invariant.characters

pub returns : goal.returns
returns c =
    let characters = chars c.args.text.now in
    let counted : c.loop.counter ≡ c.args.count = omega arith in
    let value : c.range_from.result.now ≡ encode_utf8_all (last_chars c.args.count characters) =
    c.range_from.ensures.value
    ∙ drop-split c.args.text.now c.loop.prefix.now (length characters - c.loop.counter) c.utf8.text
    c.loop.invariant.utf8 c.loop.invariant.characters
    ∙ ap (λ n. encode_utf8_all (last_chars n characters)) counted in
    record {
      value = value;
      characters =
          encodes_same (chars c.range_from.result.now) (last_chars c.args.count characters)
          (encodes-chars c.range_from.result.now c.range_from.utf8 ∙ value);
    }
