use Rattle.std.proofs.Common.{inl, inr}
use Rattle.learned_store.specs.Stores.{opening_now}
use Rattle.skk_top.proofs.Begun.{begun-typed, if_err, if_ok, if_ok3}
use Rattle.skk_top.proofs.Runs.{Keeps-self}
use Rattle.skk_top.proofs.type_command.begin_learned.Goals as goal

-- the learned file was opened
pub returns-in-Ok-clause-leaves : goal.returns-in-Ok-clause-leaves
returns-in-Ok-clause-leaves g c =
    let D = g.D.Disk in
    let store = c.in-Ok.store in
    let script = c.begin_script.ensures in
    if_ok3 c.begin_script.result script.leaves script.rules script.store (λ begun leaves rules same run out typed.
    inr (record {
      opening = opening_now D store;
      opened = c.in-Ok.ensures.opened run;
      typed = leaves run out (begun-typed g.M.Manner.leaves D begun.store store begun.rules
          c.args.table.rules begun.script run out _ rules same typed);
    }))

pub returns-in-Ok-clause-stands : goal.returns-in-Ok-clause-stands
returns-in-Ok-clause-stands g c =
    if_ok c.begin_script.result c.begin_script.ensures.store
    (λ begun same run runs. c.in-Ok.ensures.stands run (rw same at runs))

pub returns-in-Ok-clause-ended_stands : goal.returns-in-Ok-clause-ended_stands
returns-in-Ok-clause-ended_stands g c =
    if_err c.begin_script.result c.begin_script.ensures.runs (λ run runs. c.in-Ok.ensures.stands run runs)

-- it was, and no script was had
pub returns-in-Ok-clause-ends : goal.returns-in-Ok-clause-ends
returns-in-Ok-clause-ends g c =
    let store = c.in-Ok.store in
    if_err c.begin_script.result c.begin_script.ensures.ends (λ run ends out keeps.
    inr (record {
      opening = opening_now g.D.Disk store;
      opened = c.in-Ok.ensures.opened run;
      typed = ends out keeps;
    }))

-- the learned file was refused
pub returns-in-Err-clause-ends : goal.returns-in-Err-clause-ends
returns-in-Err-clause-ends g c out keeps =
    inl (
      record { cause = c.in-Err.ensures.refused; uncalled = c.in-Err.ensures.uncalled; unwritten = keeps },
      Keeps-self _,
    )
