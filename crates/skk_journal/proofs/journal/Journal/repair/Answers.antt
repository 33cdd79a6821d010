use Rattle.std.proofs.Common.{◌-◌, sym, ap, subst, arith, refl}
use Rattle.skk_disk.specs.StepLaws.{at_end}
use Rattle.skk_journal.specs.Journal.{is_in_doubt, HoldsDoubt}
use Rattle.skk_journal.specs.declared.live.Doubt.{Doubt}
use Rattle.skk_journal.specs.Images.{Each}
use Rattle.skk_journal.specs.JournalLaws.{rests_open}
use Rattle.skk_journal.proofs.Results.{on_err}
use Rattle.skk_journal.proofs.JournalSteps.{gating_keeps, gating_opens, gate_shut, turning_keeps, turning_opens}
use Rattle.skk_journal.proofs.JournalSteps.{turned_back, doubted, no_doubt}
use Rattle.skk_journal.proofs.journal.Journal.repair.Goals as goal

pub returns-in_err-write_gate-in-Record-clause-err : goal.returns-in_err-write_gate-in-Record-clause-err
returns-in_err-write_gate-in-Record-clause-err g c = on_err c.from_residual.result (λ contents others in_doubt.
    let D = g.D.Disk in
    let inside = c.self.inside in
    let start = doubted D _ _ _ c.in-Record.is contents others c.self.view_is in_doubt in
    record {
      doubt = ap is_in_doubt c.in-Record.is;
      version = start.1;
      end = start.0;
      images = subst (λ (d : Doubt). Each (D.left_since c.write_gate.new.disk (D.time c.write_gate.new.disk))
          (HoldsDoubt inside.newest inside.live inside.idle d contents others)) (sym c.in-Record.is)
          (gating_keeps inside.newest inside.live inside.idle contents others (inside.end - 1)
          (omega (arith, start.0)) _ _ start.2
          (at_end _ _ _ _ _ c.write_gate.ensures.advances.past (g.met.D.Disk.earlier c.write_gate.new.disk) _
          c.write_gate.ensures.images));
    })

pub returns-in_err-write_first-in-Idle-clause-err : goal.returns-in_err-write_first-in-Idle-clause-err
returns-in_err-write_first-in-Idle-clause-err g c = on_err c.from_residual-in_err-write_first-in-Idle.result
    (λ contents others in_doubt.
    let D = g.D.Disk in
    let inside = c.self.inside in
    let start = doubted D _ _ _ c.in-Idle.is contents others c.self.view_is in_doubt in
    record {
      doubt = ap is_in_doubt c.in-Idle.is;
      version = start.1;
      end = start.0;
      images = subst (λ (d : Doubt). Each (D.left_since c.write_first.new.disk (D.time c.write_first.new.disk))
          (HoldsDoubt inside.newest inside.live inside.idle d contents others)) (sym c.in-Idle.is)
          (turning_keeps inside.newest inside.live contents others _ c.other_file.ensures _ _
          (at_end _ _ _ _ _ c.write_first.ensures.advances.past (g.met.D.Disk.earlier c.write_first.new.disk) _
          c.write_first.ensures.images) start.2);
    })

pub returns-in_err-write_gate-in-Record-clause-images : goal.returns-in_err-write_gate-in-Record-clause-images
returns-in_err-write_gate-in-Record-clause-images g c = rw (← c.self.view_is) (λ contents others in_doubt.
    let start = doubted _ _ _ _ c.in-Record.is contents others refl in_doubt in
    gating_opens _ c.self.inside.live _ contents others (c.self.inside.end - 1) (omega (arith, start.0)) _ _ start.2
    c.write_gate.ensures.images)

pub returns-in_ok-write_gate-in-Record-clause-images : goal.returns-in_ok-write_gate-in-Record-clause-images
returns-in_ok-write_gate-in-Record-clause-images g c = rw (← c.self.view_is) (λ contents others in_doubt.
    let start = doubted _ _ _ _ c.in-Record.is contents others refl in_doubt in
    gating_opens _ c.self.inside.live _ contents others (c.self.inside.end - 1) (omega (arith, start.0)) _ _ start.2
    c.write_gate.ensures.images)

pub returns-in_err-write_first-in-Idle-clause-images : goal.returns-in_err-write_first-in-Idle-clause-images
returns-in_err-write_first-in-Idle-clause-images g c = rw (← c.self.view_is) (λ contents others in_doubt.
    let start = doubted _ _ _ _ c.in-Idle.is contents others refl in_doubt in
    turning_opens _ c.self.inside.live contents others _ c.other_file.ensures _ _ c.write_first.ensures.images start.2)

pub returns-in_ok-write_first-in-Idle-clause-images : goal.returns-in_ok-write_first-in-Idle-clause-images
returns-in_ok-write_first-in-Idle-clause-images g c = rw (← c.self.view_is) (λ contents others in_doubt.
    let start = doubted _ _ _ _ c.in-Idle.is contents others refl in_doubt in
    turning_opens _ c.self.inside.live contents others _ c.other_file.ensures _ _ c.write_first.ensures.images start.2)

pub returns-in_ok-write_gate-in-Record-clause-ok : goal.returns-in_ok-write_gate-in-Record-clause-ok
returns-in_ok-write_gate-in-Record-clause-ok g c contents others in_doubt =
    let D = g.D.Disk in
    let start = doubted D _ _ _ c.in-Record.is contents others c.self.view_is in_doubt in
    record {
      calm = refl;
      version = start.1;
      end = start.0;
      images = gate_shut _ c.self.inside.live _ contents others (c.self.inside.end - 1) (omega (arith, start.0)) _ _
          start.2 c.in_ok-write_gate-in-Record.ensures.ok;
    }

pub returns-in_ok-write_first-in-Idle-clause-ok : goal.returns-in_ok-write_first-in-Idle-clause-ok
returns-in_ok-write_first-in-Idle-clause-ok g c contents others in_doubt =
    let D = g.D.Disk in
    let start = doubted D _ _ _ c.in-Idle.is contents others c.self.view_is in_doubt in
    record {
      calm = refl;
      version = start.1;
      end = start.0;
      images = turned_back _ c.self.inside.live contents others _ c.other_file.ensures _ _
          c.in_ok-write_first-in-Idle.ensures.ok start.2;
    }

pub returns-in_err-write_gate-in-Record-clause-rests : goal.returns-in_err-write_gate-in-Record-clause-rests
returns-in_err-write_gate-in-Record-clause-rests g c contents rests image left =
    absurd (no_doubt g.D.Disk _ _ _ c.in-Record.is contents c.self.view_is refl rests)

pub returns-in_err-write_first-in-Idle-clause-rests : goal.returns-in_err-write_first-in-Idle-clause-rests
returns-in_err-write_first-in-Idle-clause-rests g c contents rests image left =
    absurd (no_doubt g.D.Disk _ _ _ c.in-Idle.is contents c.self.view_is refl rests)

pub returns-in_ok-write_gate-in-Record-clause-rests : goal.returns-in_ok-write_gate-in-Record-clause-rests
returns-in_ok-write_gate-in-Record-clause-rests g c contents rests image left =
    absurd (no_doubt g.D.Disk _ _ _ c.in-Record.is contents c.self.view_is refl rests)

pub returns-in_ok-write_first-in-Idle-clause-rests : goal.returns-in_ok-write_first-in-Idle-clause-rests
returns-in_ok-write_first-in-Idle-clause-rests g c contents rests image left =
    absurd (no_doubt g.D.Disk _ _ _ c.in-Idle.is contents c.self.view_is refl rests)

pub returns-in-Calm-clause-rests : goal.returns-in-Calm-clause-rests
returns-in-Calm-clause-rests g c contents rests image left =
    rests_open _ _ contents rests image left
