use Rattle.key_scripts.proofs.Marks.{keys-marked, opening-marked}
use Rattle.key_scripts.proofs.script.mark.Goals as goal

pub returns-in-Keys-clause-yes : goal.returns-in-Keys-clause-yes
returns-in-Keys-clause-yes c =
    λ yes. keys-marked c.args.named.now c.args.line.now c.in-Keys.session c.in-Keys.keys c.told-named
    c.requires c.in-Keys.is

pub returns-else-named-session-clause-yes : goal.returns-else-named-session-clause-yes
returns-else-named-session-clause-yes c = λ yes.
    opening-marked c.args.named.now c.args.line.now c.in-Opening.session c.in-Opening.typist c.in-Opening.book
    c.told-named c.requires c.in-Opening.is c.if-named-session.false
