use Rattle.skk_server.proofs.Fronts.{exchange-first}
use Rattle.skk_server.proofs.laws.exchange_of_a_front.Goals as goal

pub returns : goal.returns
returns c =
    exchange-first c.conversation_of_a_front.ensures c.requests_of_a_front.ensures.more
    c.requests_of_a_front.ensures.bad
