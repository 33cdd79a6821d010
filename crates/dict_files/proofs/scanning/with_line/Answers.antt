use Rattle.std.proofs.lemmas.Result.{IfOk-weaker}
use Rattle.dict_files.proofs.scanning.with_line.Goals as goal

pub returns-in-Entry : goal.returns-in-Entry
returns-in-Entry c =
    IfOk-weaker c.with_entry.result _ _
    (λ after adds text left stands are. adds text c.args.line.now.number left stands (rw c.in-Entry.is at are))
    c.with_entry.ensures
