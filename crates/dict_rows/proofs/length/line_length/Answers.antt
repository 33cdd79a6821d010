use Rattle.std.proofs.Common.{◌∙◌, ap, arith}
use Rattle.std.specs.List.{flat_map}
use Rattle.skk_text.specs.Text.{byte_len}
use Rattle.skk_calls.specs.Canonical.{item, mark_items, with_slash, written_block}
use Rattle.dict_rows.proofs.LineLengths.{line_parts}
use Rattle.dict_rows.proofs.length.line_length.Goals as goal

pub returns : goal.returns
returns c =
    omega (
      arith,
      line_parts c.args.row.now,
      c.len_of.ensures,
      c.len.ensures,
      c.cands_len.ensures,
      c.blocks_len.ensures,
      c.mark_len.ensures,
      c.saturating_add.ensures,
      c.saturating_add-2.ensures,
      c.saturating_add-3.ensures,
      c.saturating_add-4.ensures,
      ap byte_len (c.reading.ensures.value ∙ ap (λ key. key.reading) c.key.ensures.value),
      ap (λ cands. byte_len (flat_map (λ cand. with_slash (item cand)) cands))
          (c.as_slice.ensures ∙ c.cands.ensures.value),
      ap (λ blocks. byte_len (flat_map (λ block. with_slash (written_block block)) blocks))
          (c.as_slice-2.ensures ∙ c.blocks-2.ensures.value),
      ap (λ hides. byte_len (flat_map with_slash (mark_items hides))) (c.as_slice-3.ensures ∙ c.hides.ensures.value),
    )
