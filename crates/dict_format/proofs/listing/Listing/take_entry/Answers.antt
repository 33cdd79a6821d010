use Rattle.std.proofs.Common.{◌≡◌, ◌∷◌, [], Ok, Err, refl, subst, inl, inr}
use Rattle.std.specs.Str.{chars}
use Rattle.std.proofs.lemmas.Result.{IfOk-weaker}
use Rattle.dict_format.specs.FileBuilding.{listed_with, refused_with}
use Rattle.dict_format.specs.FileLines.{FileEntry, TakeAll}
use Rattle.dict_format.specs.Reading.{line_reading}
use Rattle.dict_format.specs.Views.{TellsReason}
use Rattle.dict_format.specs.declared.reason.LineFault.{LineFault}
use Rattle.dict_format.specs.declared.reason.LineFault.TheVariants.{Reason}
use Rattle.dict_format.proofs.FileEntries.{row-taken}
use Rattle.dict_format.proofs.LineReading.{answers_ok, answers_reason}
use Rattle.dict_format.proofs.listing.Listing.take_entry.Goals as goal

pub returns-in-Ok : goal.returns-in-Ok
returns-in-Ok c =
    let entry : FileEntry = record { number = c.args.number; part = c.args.part; text = chars c.args.line.now } in
    let spells = answers_ok c.args.part entry.text (Ok c.in-Ok.row) c.in-Ok.ensures in
    let next = listed_with c.args.self c.args.number c.in-Ok.row in
    IfOk-weaker c.take_row.result (λ after. after ≡ next) (TakeAll c.args.self (entry ∷ []))
    (λ after is. (next, row-taken c.args.self entry c.in-Ok.row spells, is)) c.take_row.ensures

pub returns-in-Err-Reason : goal.returns-in-Err-Reason
returns-in-Err-Reason c =
    let entry : FileEntry = record { number = c.args.number; part = c.args.part; text = chars c.args.line.now } in
    let reason = c.in-Err-Reason.reason in
    let tells = subst (λ (fault : LineFault). TellsReason fault (line_reading entry.part entry.text))
    c.in-Err-Reason.field-0-is c.in-Err-Reason.ensures in
    let first = answers_reason entry.part entry.text (Err (Reason reason)) tells reason refl in
    let next = refused_with c.args.self c.args.number reason in
    IfOk-weaker c.refuse.result (λ after. after ≡ next) (TakeAll c.args.self (entry ∷ []))
    (λ after is. (next, inr (reason, inl first, refl), is)) (rw c.in-Err-Reason.reason-is at c.refuse.ensures)
