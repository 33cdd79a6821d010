use Rattle.std.proofs.Common.{sym, subst}
use Rattle.skk_server.specs.Turns.{Begins}
use Rattle.skk_server.proofs.talk.Talk.begin.Goals as goal

pub returns-in-New : goal.returns-in-New
returns-in-New c = subst (λ talk. Begins c.args.bytes.now talk c.of.result) (sym c.in-New.is) c.of.ensures
