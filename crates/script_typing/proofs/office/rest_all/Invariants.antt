use Rattle.std.proofs.Common.{◌≡◌, ◌≤◌, ◌++◌, IfOk, length, vec_capacity}
use Rattle.script_typing.specs.Workers.{AreRested, IsLeftOf}
use Rattle.script_typing.proofs.office.rest_all.Given as goal

-- the workers that were gone over are rested, and there is room for the slips of the others
abbrev pub invariant-loop-worker : goal.invariant-loop-worker
invariant-loop-worker g l = record {
  parts : l.yielded ++ l.worker-iterator.rest.items ≡ l.fn.workers.items;
  rested : AreRested g.W.Pass.Caller g.W.Slip.Kept l.yielded
      l.slips.items;
  room : length l.fn.workers.items ≤ vec_capacity l.slips;
  left : IfOk l.typed (IsLeftOf l.yielded);
}
