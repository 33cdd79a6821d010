-- What a run of each command leaves.
use Rattle.std.specs.Prelude.{◌≡◌, List, []}
use Rattle.std.specs.Io.KnownBytes.{Keeps}
use Rattle.skk_outside.specs.Moved.{MovedShelf, MovedSource, MovedSink}
use Rattle.skk_calls.specs.declared.chronicle.Noted.{Noted}
use Rattle.command_line.specs.declared.command.AloneCommand.{AloneCommand}
use Rattle.command_line.specs.declared.command.AloneCommand.TheVariants as alone
use Rattle.command_line.specs.declared.command.WaitingCommand.{WaitingCommand}
use Rattle.command_line.specs.declared.command.WaitingCommand.TheVariants as waiting
use Rattle.run_endings.specs.declared.finish.Run.{Run}
use Rattle.skk_top.specs.AskCommand.{LeavesAsked}
use Rattle.skk_top.specs.CheckCommand.{LeavesChecked}
use Rattle.skk_top.specs.Disks.{MovedDisk, StandsSince}
use Rattle.skk_top.specs.DumpCommand.{LeavesDumped}
use Rattle.skk_top.specs.ExprCommand.{LeavesExpr}
use Rattle.skk_top.specs.ImportCommand.{LeavesImported, StandsImported}
use Rattle.skk_top.specs.LoadCommand.{LeavesLoaded, LoadsLines, LoadsTasks}
use Rattle.skk_top.specs.ServeCommand.{LeavesServed, MovedListener}
use Rattle.skk_top.specs.ShareCommand.{LeavesShared}
use Rattle.skk_top.specs.TypeCommand.{LeavesTyped, TypesLines}
use Rattle.skk_top.specs.WeaveCommand.{WeavesLines}

-- what a run of a command that waits for nobody leaves: the input is read by `type` alone, calls are made by `type`,
-- `share`, `load` and `import`, and the disk is not touched by `check` and `expr`
abbrev pub LeavesAlone : {D : Type 0} → AloneCommand → Run D → MovedShelf → MovedSource → MovedSink → MovedDisk
    → Type 0
LeavesAlone (alone.TypeScript options) run shelf input out disk =
    LeavesTyped TypesLines options run shelf input out disk
LeavesAlone (alone.Check name) run shelf input out disk =
    LeavesChecked name run shelf out × Keeps input.left input.left' × (run.chronicle ≡ []) × disk.is_untouched
LeavesAlone (alone.Dump options) run shelf input out disk =
    LeavesDumped options run out disk × Keeps input.left input.left' × (run.chronicle ≡ [])
LeavesAlone (alone.Share options) run shelf input out disk =
    LeavesShared options run out disk × Keeps input.left input.left'
LeavesAlone (alone.Load options) run shelf input out disk =
    LeavesLoaded (LoadsLines options) run out disk × Keeps input.left input.left'
LeavesAlone (alone.Expr options) run shelf input out disk =
    LeavesExpr options run shelf out × Keeps input.left input.left' × (run.chronicle ≡ []) × disk.is_untouched
LeavesAlone (alone.Import options) run shelf input out disk =
    LeavesImported options run shelf out disk × Keeps input.left input.left'

-- what a stop at each moment of a run of such a command leaves, by its chronicle: `import` learns in groups
abbrev pub StandsAlone : AloneCommand → MovedShelf → List Noted → MovedDisk → Type 0
StandsAlone (alone.Import options) shelf chronicle disk =
    StandsImported options (shelf.file options.file) chronicle disk
StandsAlone command shelf chronicle disk = StandsSince chronicle disk

-- what a run of a command that may wait leaves: the input is read by `type` alone, and the listener is asked by `serve`
-- and `ask` alone
abbrev pub LeavesWaiting : {D L : Type 0} → WaitingCommand → Run D → MovedShelf → MovedSource → MovedSink
    → MovedListener L → MovedDisk → Type 0
LeavesWaiting (waiting.TypeScript options) run shelf input out net disk =
    LeavesTyped WeavesLines options run shelf input out disk × net.is_untouched
LeavesWaiting (waiting.Serve options) run shelf input out net disk =
    LeavesServed options run shelf out net disk × Keeps input.left input.left'
LeavesWaiting (waiting.Load options) run shelf input out net disk =
    LeavesLoaded (LoadsTasks options) run out disk × Keeps input.left input.left' × net.is_untouched
LeavesWaiting (waiting.Ask options) run shelf input out net disk =
    LeavesAsked options run.ended out net × Keeps input.left input.left' × (run.chronicle ≡ []) × disk.is_untouched
