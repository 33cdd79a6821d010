-- What a seat comes to that changes in its place, and whose key under way gets an answer.
use Rattle.std.proofs.Common.{◌≡◌, ◌∙◌, ap, subst, true, ℕ, Option, Some, IsSomeAnd, List, [], ◌∷◌, ◌++◌}
use Rattle.std.proofs.Common.{get_or, slice_get, slice_set, arith}
use Rattle.std.specs.Option.{option_and_then, option_map_or}
use Rattle.std.proofs.lemmas.Option.{get_or_from_slice_get}
use Rattle.romaji_rules.specs.declared.rule.Rule.{Rule}
use Rattle.skk_calls.specs.declared.answer.Answer.{Answer}
use Rattle.skk_calls.specs.declared.call.Call.{Call}
use Rattle.skk_calls.specs.Dictionary.{may_answer}
use Rattle.session_machine.specs.NextAsked.{may_answer_all, next_asked}
use Rattle.session_machine.specs.Pressed.{pressed}
use Rattle.session_world.specs.Seats.{answered, asked_in, may_be_answered, with_answers}
use Rattle.session_world.specs.declared.seat.Seat.{Seat}
use Rattle.session_world.specs.declared.seat.UnderWay.{UnderWay}
use Rattle.session_world.proofs.Readings.{may-answer-more}

-- seats in which the one that was read in a place changed are those with the change of the one that stands there
pub seat-changed : (seats : List Seat) (place : ℕ) (read now : Seat) (change : Seat → Seat)
    → read ≡ get_or seats place read → now ≡ change read
    → (seat : Seat) → slice_get seats place ≡ Some seat
    → slice_set seats place now ≡ slice_set seats place (change seat)
seat-changed seats place read now change is changed seat found =
    ap (λ s. slice_set seats place s)
    (changed ∙ ap change (is ∙ get_or_from_slice_get seats place seat read found))

-- the answers with one more that the call may get which is asked are answers that the key's calls may get
pub may-take : (rules : List Rule) (seat : Seat) (key : UnderWay) (answer : Answer) → seat.under_way ≡ Some key
    → may_be_answered rules seat ≡ true
    → IsSomeAnd (asked_in rules seat) (λ call. may_answer call answer ≡ true)
    → may_answer_all (pressed rules seat.session key.key) (key.answers ++ answer ∷ []) ≡ true
may-take rules seat key answer under may asks =
    grind (
      arith,
      asked,
      λ (call : Call). may-answer-more (pressed rules seat.session key.key) key.answers call answer all,
    )
  where
    all : may_answer_all (pressed rules seat.session key.key) key.answers ≡ true
    all =
        subst (λ (u : Option UnderWay). option_map_or
        (λ (k : UnderWay). may_answer_all (pressed rules seat.session k.key) k.answers) u true ≡ true) under may

    asked : IsSomeAnd (next_asked (pressed rules seat.session key.key) key.answers)
        (λ call. may_answer call answer ≡ true)
    asked =
        subst (λ (u : Option UnderWay). IsSomeAnd (option_and_then
        (λ (k : UnderWay). next_asked (pressed rules seat.session k.key) k.answers) u)
        (λ call. may_answer call answer ≡ true)) under asks

-- the seat of a key under way goes on with its answers and one more
pub answered-with : (rules : List Rule) (seat : Seat) (key : UnderWay) (answer : Answer) → seat.under_way ≡ Some key
    → answered rules seat answer ≡ with_answers rules seat key.key (key.answers ++ answer ∷ [])
answered-with rules seat key answer under =
    ap (λ (u : Option UnderWay). option_map_or
    (λ (k : UnderWay). with_answers rules seat k.key (k.answers ++ answer ∷ [])) u seat) under
