use Rattle.std.proofs.Common.{◌≡◌, take}
use Rattle.clap.specs.Words.{app_of}
use Rattle.command_line.specs.OptionWords.{app_with}
use Rattle.command_line.proofs.option_words.command_of.Given as goal

-- the command has the options of the rows so far
abbrev pub invariant-loop-argument : goal.invariant-loop-argument
invariant-loop-argument l = app_of l.command ≡ app_with l.fn.name (take l.argument-index l.argument-items)
