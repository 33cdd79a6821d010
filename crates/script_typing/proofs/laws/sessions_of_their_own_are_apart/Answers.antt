use Rattle.script_typing.proofs.OwnSessions.{keys-apart, keys-first, keys-well}
use Rattle.script_typing.proofs.laws.sessions_of_their_own_are_apart.Goals as goal

pub returns-clause-well : goal.returns-clause-well
returns-clause-well c = keys-well

pub returns-clause-first : goal.returns-clause-first
returns-clause-first c = keys-first

pub returns-clause-apart : goal.returns-clause-apart
returns-clause-apart c = keys-apart
