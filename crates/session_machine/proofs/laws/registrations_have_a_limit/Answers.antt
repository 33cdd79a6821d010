use Rattle.std.proofs.Common.{arith}
use Rattle.session_machine.specs.Pressed.{all_pressed}
use Rattle.session_machine.specs.Session.{new_session}
use Rattle.session_machine.proofs.Depths.{Within, all-within}
use Rattle.session_machine.proofs.Kept.{comes-kept}
use Rattle.session_machine.proofs.laws.registrations_have_a_limit.Goals as goal

pub returns : goal.returns
returns c = λ rules typist book keys dialog session comes.
    let start = new_session typist book in
    comes-kept Within (all_pressed rules start keys) dialog session
    (all-within rules start keys (omega arith)) comes
