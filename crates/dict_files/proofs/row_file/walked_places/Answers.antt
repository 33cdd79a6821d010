use Rattle.std.proofs.lemmas.List.Folds.{list_all_more}
use Rattle.skk_calls.specs.Rows.{is_row}
use Rattle.dict_files.specs.Walked.{is_walked}
use Rattle.dict_files.proofs.Places.{kept_more}
use Rattle.dict_files.proofs.row_file.walked_places.Goals as goal

pub loop-place-preserved : goal.loop-place-preserved
loop-place-preserved c =
    let rows = c.args.rows.now in
    let place = c.loop-place.place in
    let row = c.index-rows-place.result in
    record {
      places =
          kept_more is_walked rows c.loop-place.places _ place row c.loop-place-test.true c.index-rows-place.is
          c.loop-place.invariant.places c.in_ok-add_walked.ensures.places;
      rows =
          rw (list_all_more is_row rows place row c.loop-place-test.true, c.loop-place.invariant.rows)
          (rw c.index-rows-place.is at c.in_ok-add_walked.ensures.valid);
    }
