use Rattle.std.proofs.Common.{arith, rules}
use Rattle.script_typing.specs.Workers.{HasRun}
use Rattle.script_typing.proofs.Hiring.{all-asked, all-done-left, ascend-hired, ascend-ran, hired-asked}
use Rattle.script_typing.proofs.Hiring.{pairwise-at, rested-length}
use Rattle.script_typing.proofs.office.type_tasks.Goals as goal

-- the numbers of workers ascend
pub rest_all-typed-requires-clause-ascend : goal.rest_all-typed-requires-clause-ascend
rest_all-typed-requires-clause-ascend g c =
    let callers = g.W.Pass.Caller in
    let hired = c.hire_all.new.workers.items in
    let ran = c.run_all.new.workers.items in
    ascend-ran callers c.args.rules.now (g.W.Office.drawn c.args.roll.now) c.args.tasks.entries hired ran
    c.hire_all.ensures.hired (pairwise-at callers (HasRun callers c.args.rules.now) hired ran c.run_all.ensures.same
    c.run_all.ensures.each)
    c.requires.ascend

pub rest_all-none_ran-requires-clause-ascend : goal.rest_all-none_ran-requires-clause-ascend
rest_all-none_ran-requires-clause-ascend g c =
    ascend-hired g.W.Pass.Caller (g.W.Office.drawn c.args.roll.now) c.args.tasks.entries c.hire_all.new.workers.items
    c.hire_all.ensures.hired c.requires.ascend

-- what all workers leave that have run
pub returns-in-Ok-hire_all-clause-worked : goal.returns-in-Ok-hire_all-clause-worked
returns-in-Ok-hire_all-clause-worked g c =
    let callers = g.W.Pass.Caller in
    let kept = g.W.Slip.Kept in
    let table = c.args.rules.now in
    let first = g.W.Office.drawn c.args.roll.now in
    let tasks = c.args.tasks.entries in
    let hired = c.hire_all.new.workers.items in
    let ran = c.run_all.new.workers.items in
    let slips = c.rest_all-typed.new.slips.items in
    let each = pairwise-at callers (HasRun callers table) hired ran c.run_all.ensures.same
    c.run_all.ensures.each in
    let asked = all-asked callers kept table first tasks hired ran slips
    c.hire_all.ensures.hired each c.rest_all-typed.ensures.rested in
    record {
      counted = asked.0;
      asks = asked.1;
      done =
          all-done-left callers kept table first tasks hired ran slips c.rest_all-typed.result c.hire_all.ensures.hired
          c.in-Ok-hire_all.ensures.all each c.rest_all-typed.ensures.rested c.rest_all-typed.ensures.left;
    }

pub returns-in-Ok-hire_all-clause-drawn : goal.returns-in-Ok-hire_all-clause-drawn
returns-in-Ok-hire_all-clause-drawn g c =
    omega (
      arith,
      c.hire_all.ensures.drawn,
      c.run_all.ensures.same,
      rested-length g.W.Pass.Caller g.W.Slip.Kept
          c.run_all.new.workers.items c.rest_all-typed.new.slips.items c.rest_all-typed.ensures.rested,
    )

-- and those that were hired where memory was out then
pub returns-in-Err-clause-worked : goal.returns-in-Err-clause-worked
returns-in-Err-clause-worked g c =
    let asked = hired-asked g.W.Pass.Caller g.W.Slip.Kept
    c.args.rules.now (g.W.Office.drawn c.args.roll.now) c.args.tasks.entries c.hire_all.new.workers.items
    c.rest_all-none_ran.new.slips.items c.hire_all.ensures.hired c.rest_all-none_ran.ensures.rested in
    record { counted = asked.0; asks = asked.1; done = search rules }

pub returns-in-Err-clause-drawn : goal.returns-in-Err-clause-drawn
returns-in-Err-clause-drawn g c =
    omega (
      arith,
      c.hire_all.ensures.drawn,
      rested-length g.W.Pass.Caller g.W.Slip.Kept
          c.hire_all.new.workers.items c.rest_all-none_ran.new.slips.items c.rest_all-none_ran.ensures.rested,
    )
