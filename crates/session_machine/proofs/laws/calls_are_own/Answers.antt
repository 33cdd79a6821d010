use Rattle.std.proofs.Common.{refl}
use Rattle.session_machine.proofs.Kept.{all-kept, pressed-kept}
use Rattle.session_machine.proofs.OwnKept.{own-kept}
use Rattle.session_machine.proofs.laws.calls_are_own.Goals as goal

pub returns-clause-new : goal.returns-clause-new
returns-clause-new c typist = (refl, refl, refl, refl)

pub returns-clause-key : goal.returns-clause-key
returns-clause-key c rules typist session key own = pressed-kept (own-kept typist) rules session key own

pub returns-clause-keys : goal.returns-clause-keys
returns-clause-keys c rules typist session keys own = all-kept (own-kept typist) rules session keys own
