use Rattle.std.proofs.Common.{length}
use Rattle.key_scripts.proofs.Reading.{AreRead}
use Rattle.key_scripts.proofs.script.Script.read.Given as goal

abbrev pub invariant-loop-text : goal.invariant-loop-text
invariant-loop-text l = AreRead l.bytes l.rest l.number l.lines l.named

abbrev pub decreases-loop-text : goal.decreases-loop-text
decreases-loop-text l = length l.rest
