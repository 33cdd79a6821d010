use Rattle.std.proofs.lemmas.Result.{on_ok_weaker}
use Rattle.skk_disk.specs.StepLaws.{weaker}
use Rattle.skk_journal.proofs.FirstBytes.{first_torn, first_placed}
use Rattle.skk_journal.proofs.filling.write_first.Goals as goal

pub returns-clause-images : goal.returns-clause-images
returns-clause-images g c = weaker _ _ _ _ _ first_torn c.write_through.ensures.images

pub returns-clause-ok : goal.returns-clause-ok
returns-clause-ok g c =
    on_ok_weaker c.write_through.result (weaker _ _ _ _ _ (first_placed c.args.first)) c.write_through.ensures.placed
