-- What an event makes of a world, by what was seen of the world.
use Rattle.std.proofs.Common.{◌≡◌, ◌∙◌, sym, ap, refl, subst, ℕ, Some, None, Option, Result, Ok, Err, slice_get}
use Rattle.std.specs.Option.{option_and_then, option_map}
use Rattle.std.specs.Result.{IsErrAnd}
use Rattle.skk_calls.specs.declared.answer.Answer.{Answer}
use Rattle.skk_calls.specs.declared.answer.Answer.TheVariants.{Done}
use Rattle.skk_calls.specs.declared.answer.Reply.{Reply}
use Rattle.skk_calls.specs.declared.call.Call.{Call}
use Rattle.skk_calls.specs.Dictionary.{after, answer}
use Rattle.session_world.specs.Keeping.{asked_at}
use Rattle.session_world.specs.Seats.{asked_in}
use Rattle.session_world.specs.Steps.{StepsTo, noted}
use Rattle.session_world.specs.Worlds.{World, answered_by, entered}
use Rattle.session_world.specs.declared.seat.Seat.{Seat}
use Rattle.session_world.specs.declared.world.WorldFault.{WorldFault}
use Rattle.session_world.specs.declared.world.WorldFault.TheVariants.{Memory}

-- a step may end out of memory
pub steps-out : (next : Option World) (world : World) (result : Result World WorldFault)
    → IsErrAnd result (λ fault. fault ≡ Memory) → StepsTo next world result
steps-out next world (Ok after) out = absurd out
steps-out next world (Err fault) out = subst (λ (f : WorldFault). StepsTo next world (Err f)) (sym out) tt

-- a call that is asked is answered
is-answered : (world next : World) (place : ℕ) (answer_of : Call → Option Answer) (call : Call) (answer : Answer)
    → asked_at world place ≡ Some call → answer_of call ≡ Some answer
    → ((seat : Seat) → slice_get world.seats place ≡ Some seat → next ≡ entered world place seat call answer)
    → option_and_then (answered_by answer_of world place) (slice_get world.seats place) ≡ Some next
is-answered world next place answer_of call answer asks gives is = by (slice_get world.seats place) refl asks
  where
    by : (found : Option Seat) → slice_get world.seats place ≡ found
        → option_and_then (asked_in world.rules) found ≡ Some call
        → option_and_then (answered_by answer_of world place) found ≡ Some next
    by None read e = absurd (cc)
    by (Some seat) read e =
        ap (λ asks. option_and_then (λ c. option_map (entered world place seat c) (answer_of c)) asks) e
        ∙ ap (λ given. option_map (entered world place seat call) given) gives ∙ ap Some (sym (is seat read))

-- and where the dictionary answers, the world is the one whose dictionary served the call, with that entered
pub is-served : (world served next : World) (place : ℕ) (call : Call) (reply : Reply)
    → asked_at world place ≡ Some call → reply ≡ answer world.files world.state call
    → served ≡ record world { state = after world.state call }
    → ((seat : Seat) → slice_get served.seats place ≡ Some seat → next ≡ noted served place seat call (Done reply))
    → option_and_then (answered_by (λ c. Some (Done (answer world.files world.state c))) world place)
    (slice_get world.seats place) ≡ Some next
is-served world served next place call reply asks replies is enters =
    is-answered world next place (λ c. Some (Done (answer world.files world.state c))) call (Done reply) asks
    (ap (λ r. Some (Done r)) (sym replies))
    (subst (λ (w : World). (seat : Seat) → slice_get w.seats place ≡ Some seat
    → next ≡ noted w place seat call (Done reply)) is enters)
