use Rattle.session_world.specs.Worlds.{new_world}
use Rattle.session_world.proofs.Standing.{stands-after, stands-new}
use Rattle.session_world.proofs.laws.worlds_stand.Goals as goal

pub returns : goal.returns
returns c = λ sessions rules files happened world e.
    stands-after (new_world sessions rules files) happened world (stands-new sessions rules files) e
