use Rattle.exact_readers.specs.ExactLaws.{shrinks}
use Rattle.skkserv_proto.specs.Fronts.{asked_in}
use Rattle.skkserv_proto.specs.Requests.{token}
use Rattle.skkserv_proto.proofs.Feeds.{read-one, asked-all, ends-all}
use Rattle.skkserv_proto.proofs.Tokens.{token-exact}
use Rattle.skkserv_proto.proofs.next.read_behind.Goals as goal

pub loop-token-smaller : goal.loop-token-smaller
loop-token-smaller c =
    shrinks token token-exact c.loop-token.rest.now (asked_in c.in-Whole.token) c.in-Whole.behind.now c.in-Whole.ensures

pub loop-token-preserved : goal.loop-token-preserved
loop-token-preserved c =
    read-one c.args.bytes.now c.loop-token.rest.now c.in-Whole.behind.now c.args.read.now.items c.loop-token.read.items
    c.push_to.new.requests.items (asked_in c.in-Whole.token) c.loop-token.invariant c.in-Whole.ensures
    c.in_ok-push_to-in-Whole.ensures

pub returns-in-Cut-clause-asked : goal.returns-in-Cut-clause-asked
returns-in-Cut-clause-asked c =
    asked-all c.args.bytes.now c.loop-token.rest.now c.args.read.now.items c.loop-token.read.items
    c.loop-token.invariant c.in-Cut.last c.in-Cut.ensures c.place.new.requests.items
    c.in_ok-place-in-Cut.ensures.asked

pub returns-in-Cut-clause-place : goal.returns-in-Cut-clause-place
returns-in-Cut-clause-place c =
    ends-all c.args.bytes.now c.loop-token.rest.now c.args.read.now.items c.loop-token.read.items
    c.loop-token.invariant c.in-Cut.last c.in-Cut.ensures c.args.before c.in_ok-place-in-Cut.place
    c.in_ok-place-in-Cut.ensures.place
