use Rattle.std.proofs.Common.{◌≡◌, ◌∙◌, true, false, List, ℕ, Some, subst, sym, ap}
use Rattle.std.specs.Str.{chars}
use Rattle.std.proofs.lemmas.Bool.{true_from_ne_false}
use Rattle.skk_calls.specs.FoundCands.{row_with}
use Rattle.skk_calls.specs.PlainCands.{cands_in}
use Rattle.skk_calls.specs.Rows.{RowKey, is_row_key}
use Rattle.dict_format.specs.Lines.{SpellsRow}
use Rattle.dict_files.proofs.PlainRows.{plain_line, some_list}
use Rattle.dict_files.proofs.line_rows.plain_row_of_line.Goals as goal

pub returns-in-Ok : goal.returns-in-Ok
returns-in-Ok c =
    let line = chars c.args.line.now in
    let reading = chars c.in-Some.reading.now in
    let behind = chars c.in-Some-past_char.behind.now in
    let keyed = λ (text : List ℕ). let key : RowKey = record { part = c.args.part; reading = text } in key in
    let list = some_list behind c.in-Some-2.cands (sym c.in_ok-cands.ensures ∙ c.in-Some-2.is) in
    let key_is : c.in-Ok.key ≡ keyed reading = c.in-Ok.ensures.ok ∙ ap keyed c.in_ok-from_str.ensures in
    let valid : is_row_key (keyed reading) ≡ true =
    ap (λ text. is_row_key (keyed text)) (sym c.in_ok-from_str.ensures)
    ∙ true_from_ne_false (is_row_key (keyed c.in_ok-from_str.field-0)) (λ bad.
    let wrong : false ≡ true = c.in-Ok.ensures.invalid.1 bad in cc) in
    let row = row_with (keyed reading) (cands_in behind) in
    let is = plain_line line reading (chars c.in-Some.rest.now) behind c.args.part (sym c.in-Some.ensures)
    (sym c.in-Some-past_char.ensures) list.0 valid in
    (c.lines_spell_one_row.ensures.read c.args.part line row).0
    (subst (λ text. SpellsRow c.args.part text row) is.written
    (c.good_rows_are_read_again.ensures row is.valid is.good))
    ∙ ap Some (ap (λ key. row_with key (cands_in behind)) (sym key_is)
    ∙ ap (row_with c.in-Ok.key) list.1 ∙ sym c.of_cands.ensures)
