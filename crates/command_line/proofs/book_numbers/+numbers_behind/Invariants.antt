use Rattle.std.proofs.Common.{length}
use Rattle.std.specs.Str.{chars}
use Rattle.command_line.proofs.book_numbers.+numbers_behind.Given as goal

abbrev pub decreases-numbers_behind : goal.decreases-numbers_behind
decreases-numbers_behind l = length (chars l.text.now)
