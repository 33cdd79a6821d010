-- That a run ended for a call on the outside that failed.
use Rattle.std.specs.Prelude.{◌⊎◌}
use Rattle.skk_outside.specs.Faults.{Rose}
use Rattle.skk_outside.specs.Moved.{MovedShelf, MovedSource, MovedSink}
use Rattle.command_line.specs.declared.command.WaitingCommand.{WaitingCommand}
use Rattle.command_line.specs.declared.command.WaitingCommand.TheVariants.{Ask}
use Rattle.skk_top.specs.AskCommand.{DialledFailed}
use Rattle.skk_top.specs.Disks.{MovedDisk}
use Rattle.skk_top.specs.ServeCommand.{MovedListener}

-- a call on the shelf, the source, the sink or the disk failed
abbrev pub HasFailed : MovedShelf → MovedSource → MovedSink → MovedDisk → Type 0
HasFailed shelf input out disk =
    Rose shelf.faults shelf.faults'
    ⊎ (Rose input.faults input.faults' ⊎ (Rose out.faults out.faults' ⊎ Rose disk.before.faults disk.after.faults))

-- a call failed on a link that a command dialled, which `ask` alone does
abbrev pub HasLinkFailed : {L : Type 0} → WaitingCommand → MovedListener L → Type 0
HasLinkFailed (Ask options) net = DialledFailed net
HasLinkFailed command net = ⊥

-- a call of a command that may wait failed: on the shelf, the source, the sink or the disk, on the listener, or on a
-- link that it dialled
abbrev pub HasWaitingFailed : {L : Type 0} → WaitingCommand → MovedShelf → MovedSource → MovedSink → MovedListener L
    → MovedDisk → Type 0
HasWaitingFailed command shelf input out net disk =
    HasFailed shelf input out disk ⊎ (Rose net.faults net.faults' ⊎ HasLinkFailed command net)
