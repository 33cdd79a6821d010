-- How a run ends that came to no command.
use Rattle.std.specs.Prelude.{◌≡◌, ℕ, Option, None, Some, Err}
use Rattle.skk_outside.specs.Moved.{MovedSink}
use Rattle.command_line.specs.declared.command.Command.{Command}
use Rattle.run_endings.specs.Status.{Ended, Tells, run_status, run_message}
use Rattle.run_endings.specs.declared.fault.RunFault.TheVariants.{Words, Memory}

-- how it ends by what the words are: no command; or a command, for which there was no memory
abbrev pub unread : Option Command → Ended
unread None = Err Words
unread (Some command) = Err Memory

-- it ends with this status, and that is told
abbrev pub EndsUnread : Option Command → ℕ → MovedSink → Type 0
EndsUnread read status err = (status ≡ run_status (unread read)) × Tells (run_message (unread read)) err
