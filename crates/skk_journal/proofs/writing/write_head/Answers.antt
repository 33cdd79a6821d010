use Rattle.skk_disk.specs.RunLaws.{advances_on}
use Rattle.skk_disk.specs.StepLaws.{weaker}
use Rattle.skk_journal.proofs.BlankSteps.{both_blank}
use Rattle.skk_journal.proofs.Ends.{blank_cut}
use Rattle.skk_journal.proofs.writing.write_head.Goals as goal

pub returns-in_err-cut-clause-images : goal.returns-in_err-cut-clause-images
returns-in_err-cut-clause-images g c = weaker _ _ _ _ _ blank_cut c.cut.ensures.images

pub returns-clause-images : goal.returns-clause-images
returns-clause-images g c =
    both_blank _ _ _ _ _ _ _ c.cut.ensures.past c.write_end.ensures.advances.past (g.met.D.Disk.earlier c.cut.new.self)
    (weaker _ _ _ _ _ blank_cut c.cut.ensures.images) c.write_end.ensures.images

pub returns-clause-advances : goal.returns-clause-advances
returns-clause-advances g c =
    advances_on g.D.Disk _ _ _ (record { past = c.cut.ensures.past; counted = c.cut.ensures.counted })
    c.write_end.ensures.advances (g.met.D.Disk.earlier c.write_end.new.disk)
