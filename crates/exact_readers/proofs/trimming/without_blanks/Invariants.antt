use Rattle.std.proofs.Common.{◌≡◌, length}
use denote.Text.{Utf8}
use denote.Shadow.{shadow}
use Rattle.exact_readers.specs.Trimming.{without_blanks}
use Rattle.exact_readers.proofs.trimming.without_blanks.Given as goal

abbrev pub invariant-loop-shorter : goal.invariant-loop-shorter
invariant-loop-shorter l = shadow (Utf8 l.rest) × (without_blanks l.rest ≡ without_blanks l.line)

abbrev pub decreases-loop-shorter : goal.decreases-loop-shorter
decreases-loop-shorter l = length l.rest
