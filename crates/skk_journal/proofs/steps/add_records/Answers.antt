use Rattle.skk_disk.specs.StepLaws.{at_end}
use Rattle.skk_journal.proofs.Adding.{adds_none, fails_calm, adds_all, stays_staged, adds_all_or_none}
use Rattle.skk_journal.proofs.Results.{on_err}
use Rattle.skk_journal.proofs.steps.add_records.Goals as goal

pub returns-in_err-write_behind-clause-err : goal.returns-in_err-write_behind-clause-err
returns-in_err-write_behind-clause-err g c = on_err c.from_residual.result (λ added group.
    fails_calm _ _ added _ _ _ c.requires.calm
    (at_end _ _ _ _ _ c.write_behind.ensures.advances.past (g.met.D.Disk.earlier c.write_behind.new.disk) _
    c.write_behind.ensures.images))

pub returns-in_err-write_behind-clause-images : goal.returns-in_err-write_behind-clause-images
returns-in_err-write_behind-clause-images g c added group = adds_none _ _ added _ _ c.write_behind.ensures.images

pub returns-in_err-write_gate-clause-err : goal.returns-in_err-write_gate-clause-err
returns-in_err-write_gate-clause-err g c = on_err c.from_residual-in_err-write_gate.result (λ added group.
    stays_staged _ _ added c.requires.some _ _ _ (c.in_ok-write_behind.ensures.ok added group)
    (at_end _ _ _ _ _ c.write_gate.ensures.advances.past (g.met.D.Disk.earlier c.write_gate.new.disk) _
    c.write_gate.ensures.images))

pub returns-in_err-write_gate-clause-images : goal.returns-in_err-write_gate-clause-images
returns-in_err-write_gate-clause-images g c added group =
    adds_all_or_none _ _ added c.requires.some _ _ _ _ _ _ c.in_ok-write_behind.ensures.advances.past
    c.write_gate.ensures.advances.past c.in_ok-write_behind.ensures.images
    (c.in_ok-write_behind.ensures.ok added group) c.write_gate.ensures.images

pub returns-clause-images : goal.returns-clause-images
returns-clause-images g c added group =
    adds_all_or_none _ _ added c.requires.some _ _ _ _ _ _ c.in_ok-write_behind.ensures.advances.past
    c.write_gate.ensures.advances.past c.in_ok-write_behind.ensures.images
    (c.in_ok-write_behind.ensures.ok added group) c.write_gate.ensures.images

pub returns-clause-ok : goal.returns-clause-ok
returns-clause-ok g c added group =
    adds_all _ _ added c.requires.some _ _ _ (c.in_ok-write_behind.ensures.ok added group)
    c.in_ok-write_gate.ensures.ok
