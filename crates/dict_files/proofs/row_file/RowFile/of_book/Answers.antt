use Rattle.std.proofs.Common.{◌∙◌, ap, not}
use Rattle.std.specs.List.{filter, list_all}
use Rattle.std.proofs.lemmas.Bool.{and_from}
use Rattle.skk_text.specs.PairsLaws.{all_pairs-filter}
use Rattle.skk_calls.specs.Rows.{is_row, keys_differ, same_key}
use Rattle.dict_files.specs.Walked.{is_walked}
use Rattle.dict_files.proofs.row_file.RowFile.of_book.Goals as goal

pub invariant_of-result : goal.invariant_of-result
invariant_of-result c =
    let rows = c.as_slice-rows.result.now in
    let differ = ap keys_differ (c.as_slice-rows.ensures ∙ c.rows.ensures.value) ∙ c.rows.ensures.valid in (
      record {
        keys = rw (c.as_slice-rows.ensures, c.rows.ensures.value) at c.in_ok-by_key.ensures;
        readings =
            rw (c.as_slice-rows.ensures, c.rows.ensures.value)
            at (c.sort.ensures (filter is_walked rows) c.in_ok-walked.ensures.places
            (all_pairs-filter (λ row other. not (same_key row.key other.key)) is_walked rows differ));
      },
      and_from (list_all is_row c.args.book) (keys_differ c.args.book)
          (rw (c.as_slice-rows.ensures, c.rows.ensures.value) at c.in_ok-walked.ensures.rows) c.rows.ensures.valid,
    )
