use Rattle.std.proofs.Common.{◌∷◌, []}
use Rattle.std.proofs.lemmas.Result.{on_ok_weaker, on_err_weaker}
use Rattle.skk_journal.specs.RecordLaws.{group_of_one}
use Rattle.skk_journal.proofs.steps.add_record.Goals as goal

pub returns-clause-ok : goal.returns-clause-ok
returns-clause-ok g c =
    let payload = c.args.payload.now in
    on_ok_weaker c.add_records.result
    (λ adds. adds (payload ∷ []) (group_of_one payload _ c.requires.sized c.put_together.ensures))
    c.add_records.ensures.ok

pub returns-clause-err : goal.returns-clause-err
returns-clause-err g c =
    let payload = c.args.payload.now in
    on_err_weaker c.add_records.result
    (λ fails. fails (payload ∷ []) (group_of_one payload _ c.requires.sized c.put_together.ensures))
    c.add_records.ensures.err

pub returns-clause-images : goal.returns-clause-images
returns-clause-images g c =
    let payload = c.args.payload.now in
    c.add_records.ensures.images (payload ∷ []) (group_of_one payload _ c.requires.sized c.put_together.ensures)
