use Rattle.std.proofs.Common.{◌≡◌, Option, Some, None, IsSome, Err, arith}
use Rattle.command_line.specs.Command.{command_of}
use Rattle.command_line.specs.declared.command.Command.{Command}
use Rattle.run_endings.specs.declared.fault.RunFault.TheVariants.{Memory}
use Rattle.skk_top.specs.Words.{unread}
use Rattle.skk_top.proofs.words.command_or_end.Goals as goal

-- words that are a command end for want of memory
unread-some : (read : Option Command) → IsSome read → unread read ≡ Err Memory
unread-some None some = grind (arith, some)
unread-some (Some command) some = grind (arith, some)

pub returns-in-Err-clause-ended : goal.returns-in-Err-clause-ended
returns-in-Err-clause-ended g c =
    rw (unread-some (command_of c.args.words.now) c.in-Err.ensures.memory)
    (c.tell_end-in-Err.ensures.status, c.tell_end-in-Err.ensures.told)
