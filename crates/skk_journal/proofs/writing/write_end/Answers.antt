use Rattle.std.proofs.Common.{length}
use Rattle.skk_disk.specs.StepLaws.{weaker}
use Rattle.skk_journal.proofs.Ends.{blank_torn}
use Rattle.skk_journal.proofs.writing.write_end.Goals as goal

pub returns-clause-images : goal.returns-clause-images
returns-clause-images g c =
    weaker _ _ _ _ _ (λ old new torn. blank_torn c.args.at (length c.args.bytes.now) old new c.requires torn)
    c.write_at.ensures.images
