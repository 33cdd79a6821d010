use Rattle.std.proofs.Common.{◌≡◌, Some, arith, sym}
use Rattle.std.specs.Str.{chars}
use Rattle.std.proofs.lemmas.Result.{IfOk-weaker}
use Rattle.skk_calls.specs.Rows.{Row}
use Rattle.dict_format.specs.EntryRows.{HasKey, row_of_line}
use Rattle.dict_files.proofs.Scanned.{entry-added, entry-passed}
use Rattle.dict_files.proofs.scanning.with_entry.Goals as goal
use Rattle.dict_files.proofs.scanning.with_entry.Goals.{After-first_space}

keyed : (c : After-first_space) (row : Row) → row_of_line c.args.part (chars c.args.line.now) ≡ Some row
    → HasKey c.args.part (chars c.args.line.now) row
keyed c row e =
    let law = c.lines_spell_one_row.ensures in
    law.key c.args.part (chars c.args.line.now) row ((law.read c.args.part (chars c.args.line.now) row).1 e)

pub returns-in_default : goal.returns-in_default
returns-in_default c text number left stands =
    entry-passed text c.args.line.now c.args.start c.args.part stands c.utf8.line
    (keyed (goal.at.returns-in_default c).After-first_space) number c.args.places left
    (rw c.as_bytes.ensures.value at (sym c.in_default.ensures.value))

pub returns : goal.returns
returns c =
    IfOk-weaker c.with.result _ _
    (λ after added text number left stands.
    entry-added text c.args.line.now c.args.start c.args.part stands c.utf8.line
    (keyed (goal.at.returns c).After-first_space) c.in-Some.reading
    (rw c.as_bytes.ensures.value at (sym c.in-Some.ensures.value))
    (omega (arith, c.in-Some.ensures.within, c.as_bytes.ensures.len)) number c.args.places after left added)
    c.with.ensures
