-- The ranges in which the numbers of commands lie.
use Rattle.std.specs.Prelude.{⊤, ◌≡◌, ◌≤◌, ◌<◌, ◌^◌, ℕ, true, Option, IfSome}
use Rattle.command_line.specs.Command.{question_text}
use Rattle.command_line.specs.Words.{is_askable}
use Rattle.command_line.specs.declared.command.AloneCommand.{AloneCommand}
use Rattle.command_line.specs.declared.command.AloneCommand.TheVariants as alone
use Rattle.command_line.specs.declared.command.Command.{Command}
use Rattle.command_line.specs.declared.command.Command.TheVariants.{Alone, Waiting}
use Rattle.command_line.specs.declared.command.LoadOptions.{LoadOptions}
use Rattle.command_line.specs.declared.command.WaitingCommand.{WaitingCommand}
use Rattle.command_line.specs.declared.command.WaitingCommand.TheVariants as waiting

-- a number lies from the first to the second
abbrev pub LiesFrom : ℕ → ℕ → ℕ → Type 0
LiesFrom least most number = (least ≤ number) × (number ≤ most)

-- the most bytes of each file of the learned dictionary lie in their range, where they are given
abbrev pub IsLimitInRange : Option ℕ → Type 0
IsLimitInRange limit = IfSome limit (LiesFrom 64 268435456)

-- each number of a load lies in its range
abbrev pub IsLoadInRange : LoadOptions → Type 0
IsLoadInRange options =
    (options.seed < 2 ^ 64) × LiesFrom 1 64 options.sessions × LiesFrom 1 20000 options.lines

-- each number of a command that waits for nobody lies in its range
abbrev pub IsAloneInRange : AloneCommand → Type 0
IsAloneInRange (alone.TypeScript options) = IsLimitInRange options.limit
IsAloneInRange (alone.Check file) = ⊤
IsAloneInRange (alone.Dump options) = options.book ≤ 65535
IsAloneInRange (alone.Share options) = (options.typist ≤ 65535) × IsLimitInRange options.limit
IsAloneInRange (alone.Load options) = IsLoadInRange options
IsAloneInRange (alone.Expr options) = ⊤
IsAloneInRange (alone.Import options) = (options.book ≤ 65535) × IsLimitInRange options.limit

-- each number of a command that may wait lies in its range, and what a server is asked for can be asked
abbrev pub IsWaitingInRange : WaitingCommand → Type 0
IsWaitingInRange (waiting.TypeScript options) = IsLimitInRange options.limit
IsWaitingInRange (waiting.Serve options) =
    IsLimitInRange options.limit × LiesFrom 1 65535 options.port × LiesFrom 1 1000000 options.connections
IsWaitingInRange (waiting.Load options) = IsLoadInRange options
IsWaitingInRange (waiting.Ask options) =
    LiesFrom 1 65535 options.port × (is_askable (question_text options.question) ≡ true)

-- each number of a command lies in its range
abbrev pub HasNumbersInRange : Command → Type 0
HasNumbersInRange (Alone command) = IsAloneInRange command
HasNumbersInRange (Waiting command) = IsWaitingInRange command
