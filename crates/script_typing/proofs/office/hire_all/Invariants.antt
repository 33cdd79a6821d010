use Rattle.std.proofs.Common.{◌≡◌, ◌≤◌, All, length, true, vec_capacity}
use Rattle.std.specs.List.{list_all}
use Rattle.std.specs.Map.{values_of}
use Rattle.key_scripts.specs.Script.{opens_well}
use Rattle.script_typing.proofs.Hiring.{IsHiring}
use Rattle.script_typing.proofs.office.hire_all.Given as goal

-- workers were hired for the first of the tasks, and there is room for the others
abbrev pub invariant-loop-number : goal.invariant-loop-number
invariant-loop-number g l = record {
  owns : g.W.Office.owns l.office l.roll;
  hiring : IsHiring g.W.Pass.Caller (g.W.Office.drawn l.fn.roll) (g.W.Office.drawn l.roll)
      l.fn.tasks.entries l.tasks.entries l.workers.items;
  room : length l.fn.tasks.entries ≤ vec_capacity l.workers;
  opens : All (λ lines. list_all opens_well lines ≡ true) (values_of l.tasks.entries);
}

abbrev pub decreases-loop-number : goal.decreases-loop-number
decreases-loop-number g l = length l.tasks.entries
