-- What the typing of tasks by callers of one dictionary leaves.
use Rattle.std.specs.Prelude.{◌≡◌, ℕ, List}
use Rattle.romaji_rules.specs.declared.rule.Rule.{Rule}
use Rattle.skk_calls.specs.Chronicles.{history_of}
use Rattle.skk_calls.specs.Histories.{Opening}
use Rattle.skk_calls.specs.Interactions.{Dialog}
use Rattle.skk_calls.specs.Openings.{IsLegalOver, said_in}
use Rattle.skk_calls.specs.Tallies.{tally_of}
use Rattle.script_typing.specs.Callers.{AreCallers}
use Rattle.script_typing.specs.Woven.{Tasks}
use Rattle.script_typing.specs.Workers.{WorkedBy}
use Rattle.caller_work.specs.Disks.{DiskNow, KeepsDisk}
use Rattle.skk_top.specs.declared.typed_tasks.TypedTasks.{TypedTasks}

-- what the typing of tasks over an opening leaves: the callers, whose numbers count on from 0, have said what the
-- chronicle has of each, which is legal over the opening; what they said decides what was typed; and the tally and the
-- disk are what the chronicle leaves
pub record TypesTasks {D : Type 0} (opening : Opening) (rules : List Rule) (tasks : Tasks) (left : TypedTasks D)
    (disk : DiskNow) : Type 0 where
  pub numbers : List ℕ
  pub dialogs : List Dialog
  pub legal : IsLegalOver opening left.closed.chronicle
  pub callers : AreCallers (said_in left.closed.chronicle) numbers dialogs
  pub worked : WorkedBy rules tasks 0 left.typed numbers dialogs
  pub kept : KeepsDisk opening left.closed.chronicle disk
  pub tally_is : left.closed.tally ≡ tally_of opening.state (history_of left.closed.chronicle)
