use Rattle.skkserv_proto.proofs.Tokens.{requests-more, bad-stays}
use Rattle.skkserv_proto.proofs.laws.requests_of_a_front.Goals as goal

pub returns-clause-more : goal.returns-clause-more
returns-clause-more c = requests-more

pub returns-clause-bad : goal.returns-clause-bad
returns-clause-bad c = bad-stays
