use Rattle.std.proofs.Common.{length}
use Rattle.skkserv_proto.proofs.Feeds.{HasRead}
use Rattle.skkserv_proto.proofs.next.read_behind.Given as goal

-- tokens were read in front of the rest, and what they ask was added
abbrev pub invariant-loop-token : goal.invariant-loop-token
invariant-loop-token l = HasRead l.bytes l.rest l.fn.read.items l.read.items

abbrev pub decreases-loop-token : goal.decreases-loop-token
decreases-loop-token l = length l.rest
