use Rattle.skk_disk.specs.RunLaws.{advances_on}
use Rattle.skk_journal.proofs.BlankSteps.{both_blank}
use Rattle.skk_journal.proofs.writing.write_records.Goals as goal

pub returns-clause-images : goal.returns-clause-images
returns-clause-images g c =
    both_blank _ _ _ _ _ _ _ c.write_end.ensures.advances.past c.write_end-2.ensures.advances.past
    (g.met.D.Disk.earlier c.write_end.new.disk) c.write_end.ensures.images c.write_end-2.ensures.images

pub returns-clause-advances : goal.returns-clause-advances
returns-clause-advances g c =
    advances_on g.D.Disk _ _ _ c.write_end.ensures.advances c.write_end-2.ensures.advances
    (g.met.D.Disk.earlier c.write_end-2.new.disk)
