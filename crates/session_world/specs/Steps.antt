-- How a step of a world ends.
use Rattle.std.specs.Prelude.{◌≡◌, ⊤, ℕ, Bool, true, false, Option, None, Some, Result, Ok, Err, [], ◌∷◌, ◌++◌}
use Rattle.std.specs.Option.{option_map}
use Rattle.skk_calls.specs.declared.answer.Answer.{Answer}
use Rattle.skk_calls.specs.declared.call.Call.{Call}
use Rattle.skk_calls.specs.Dictionary.{after}
use Rattle.skk_calls.specs.Histories.{in_doubt}
use Rattle.session_world.specs.Seats.{answered}
use Rattle.session_world.specs.Worlds.{World, last_of, with_seat}
use Rattle.session_world.specs.declared.seat.Seat.{Seat}
use Rattle.session_world.specs.declared.world.WorldFault.{WorldFault}
use Rattle.session_world.specs.declared.world.WorldFault.TheVariants.{NotNow, Memory}

-- a step ends with the next world; where there is none it hands the world back as it was; or memory is out
abbrev pub StepsTo : Option World → World → Result World WorldFault → Type 0
StepsTo next world (Ok after) = next ≡ Some after
StepsTo next world (Err (NotNow back)) = (next ≡ None) × (back ≡ world)
StepsTo next world (Err Memory) = ⊤

-- a world whose seat of a place got an answer to a call, which is entered; its dictionary stays
abbrev pub noted : World → ℕ → Seat → Call → Answer → World
noted world place seat call answer = record (with_seat world place (answered world.rules seat answer)) {
  history = world.history ++ record { number = place; call = call; answer = answer } ∷ [];
}

-- the change that was last refused for the disk was made, or there is none and the world stays
abbrev pub KeepsDoubt : Bool → World → World → Type 0
KeepsDoubt true before now =
    option_map (λ call. record before { state = after before.state call }) (last_of (in_doubt [] before.history))
    ≡ Some now
KeepsDoubt false before now = (last_of (in_doubt [] before.history) ≡ None) × (now ≡ before)
