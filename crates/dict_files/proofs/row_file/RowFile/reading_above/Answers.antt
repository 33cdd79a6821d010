use Rattle.std.proofs.Common.{◌≡◌, ◌∙◌, Some, ap, sym}
use Rattle.std.specs.List.{filter}
use Rattle.std.specs.Option.{option_copied, option_map}
use Rattle.skk_calls.specs.Completions.{reading_of}
use Rattle.skk_calls.specs.Walks.{next_above}
use Rattle.dict_files.specs.Walked.{is_walked, walked_readings}
use Rattle.dict_files.proofs.Walking.{reading_found}
use Rattle.dict_files.proofs.row_file.RowFile.reading_above.Goals as goal
use Rattle.dict_files.proofs.row_file.RowFile.reading_above.Goals.{After-item_above}

-- the next reading is that of the row that is found
found : (c : After-item_above) → option_map reading_of (option_copied c.item_above.result)
    ≡ next_above (walked_readings c.args.self.now) c.args.low.now
found c =
    let rows = c.self.inside.book in
    ap (option_map reading_of)
    (c.item_above.ensures (filter is_walked rows)
    (rw (c.as_slice.ensures, c.rows.ensures.value) c.self.invariant.0.readings))
    ∙ sym (reading_found rows c.args.low.now c.rows.ensures.valid)
    ∙ ap (λ all. next_above (walked_readings all) c.args.low.now) c.self.view_is

pub returns-in-Some : goal.returns-in-Some
returns-in-Some c =
    ap (λ reading. Some reading) (c.reading.ensures.value ∙ ap (λ key. key.reading) c.key.ensures.value)
    ∙ sym (ap (λ row. option_map reading_of (option_copied row)) c.in-Some.is)
    ∙ found (goal.at.returns-in-Some c).After-item_above

pub returns-in-None : goal.returns-in-None
returns-in-None c =
    sym (ap (λ row. option_map reading_of (option_copied row)) c.in-None.is)
    ∙ found (goal.at.returns-in-None c).After-item_above
