use Rattle.std.proofs.Common.{◌∙◌, ap, arith}
use Rattle.std.specs.List.{flat_map}
use Rattle.skk_text.specs.Text.{byte_len}
use Rattle.skk_calls.specs.Canonical.{with_slash, written_word}
use Rattle.dict_rows.proofs.LineLengths.{block_parts}
use Rattle.dict_rows.proofs.length.block_len.Goals as goal

pub returns : goal.returns
returns c =
    omega (
      arith,
      block_parts c.args.block.now,
      c.len_of.ensures,
      c.len.ensures,
      c.words_len.ensures,
      c.saturating_add.ensures,
      c.saturating_add-2.ensures,
      ap byte_len (c.text.ensures.value ∙ c.okuri.ensures.value),
      ap (λ words. byte_len (flat_map (λ word. with_slash (written_word word)) words))
          (c.as_slice.ensures ∙ c.words.ensures.value),
    )
