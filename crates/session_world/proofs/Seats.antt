-- What a seat has played, as its keys are started and answered.
use Rattle.std.proofs.Common.{◌≡◌, ◌∙◌, sym, ap, refl, subst, ℕ, Some, None, Option, List, [], ◌∷◌, ◌++◌}
use Rattle.std.proofs.Common.{append_assoc}
use Rattle.std.proofs.lemmas.List.{append-nil, map-append}
use Rattle.std.specs.Option.{option_and_then, option_map_or}
use Rattle.skk_text.specs.declared.key.Key.{Key}
use Rattle.romaji_rules.specs.declared.rule.Rule.{Rule}
use Rattle.skk_calls.specs.declared.answer.Answer.{Answer}
use Rattle.skk_calls.specs.declared.call.Call.{Call}
use Rattle.skk_calls.specs.Interactions.{Interaction, Dialog, answers_of, asked, calls_of, end_of, followed_by}
use Rattle.skk_calls.specs.InteractionLaws.{asked-none}
use Rattle.session_machine.specs.NextAsked.{next_asked}
use Rattle.session_machine.specs.Pressed.{pressed, all_pressed}
use Rattle.session_machine.specs.Session.{Session, new_session}
use Rattle.session_world.specs.Seats.{new_seat, asked_in, with_key, with_end, with_answers, answered}
use Rattle.session_world.specs.Stands.{HasAsked, Played, IsUnderWay, HasPlayed}
use Rattle.session_world.specs.declared.seat.Seat.{Seat}
use Rattle.session_world.specs.declared.seat.UnderWay.{UnderWay}
use Rattle.session_world.proofs.Readings.{end-followed, asked-followed, alike-pressed, asked-next, asks-endless}
use Rattle.session_world.proofs.Readings.{asks-again}

-- a new seat has played nothing
pub played-new : (rules : List Rule) (typist book : ℕ) → HasPlayed rules (new_seat typist book) []
played-new rules typist book =
    record { first = []; rest = []; parts = refl; played = (refl, refl); under_way = refl }

-- keys were played with one more, which came to its end by the rest
played-more : (rules : List Rule) (start : Session) (keys : List Key) (key : Key) (first rest : Dialog)
    (middle end : Session)
    → Played rules start keys first middle → HasAsked (pressed rules middle key) rest
    → end_of (pressed rules middle key) (answers_of rest) ≡ Some end
    → Played rules start (keys ++ key ∷ []) (first ++ rest) end
played-more rules start keys key first rest middle end played asks ends =
    let alike = alike-pressed rules start keys key in
    let answers : answers_of (first ++ rest) ≡ answers_of first ++ answers_of rest =
    map-append (λ (pair : Call × Answer). pair.1) first rest in
    let behind : Session → Interaction Session = λ after. pressed rules after key in
    let before = all_pressed rules start keys in (
      alike.asks (answers_of (first ++ rest)) ∙ ap (λ a. asked (followed_by before behind) a) answers
          ∙ asked-followed before behind (answers_of first) (answers_of rest) middle played.1
          ∙ ap (λ calls. calls ++ asked (pressed rules middle key) (answers_of rest)) played.0
          ∙ ap (λ calls. calls_of first ++ calls) asks
          ∙ sym (map-append (λ (pair : Call × Answer). pair.0) first rest),
      alike.end (answers_of (first ++ rest)) ∙ ap (λ a. end_of (followed_by before behind) a) answers
          ∙ end-followed before behind (answers_of first) (answers_of rest) middle played.1 ∙ ends,
    )

-- a seat has played with a key that asked the rest of the dialog, and asks more where that does not lead to its end
pub played-with : (rules : List Rule) (seat : Seat) (key : Key) (first rest : Dialog)
    → Played rules (new_session seat.typist seat.book) seat.keys first seat.session
    → HasAsked (pressed rules seat.session key) rest
    → (end_of (pressed rules seat.session key) (answers_of rest) ≡ None
    → (call : Call) × (next_asked (pressed rules seat.session key) (answers_of rest) ≡ Some call))
    → HasPlayed rules (with_answers rules seat key (answers_of rest)) (first ++ rest)
played-with rules seat key first rest played asks more =
    by (end_of (pressed rules seat.session key) (answers_of rest)) refl
  where
    by : (end : Option Session) → end_of (pressed rules seat.session key) (answers_of rest) ≡ end
        → HasPlayed rules
        (option_map_or (with_end seat key) end (with_key seat key (answers_of rest))) (first ++ rest)
    by (Some end) e = record {
      first = first ++ rest;
      rest = [];
      parts = sym (append-nil (first ++ rest));
      played =
          played-more rules (new_session seat.typist seat.book) seat.keys key first rest seat.session end played asks e;
      under_way = refl;
    }
    by None e = record {
      first = first;
      rest = rest;
      parts = refl;
      played = played;
      under_way = let (call, next) = more e in (refl, asks, call, next);
    }

-- a seat has played in which a key was started
pub played-started : (rules : List Rule) (seat : Seat) (key : Key) (dialog : Dialog) → HasPlayed rules seat dialog
    → seat.under_way ≡ None → HasPlayed rules (with_answers rules seat key []) dialog
played-started rules seat key dialog has idle =
    let none : IsUnderWay rules seat.session None has.rest =
    subst (λ (under : Option UnderWay). IsUnderWay rules seat.session under has.rest) idle has.under_way in
    let parts : has.first ++ [] ≡ dialog = ap (λ rest. has.first ++ rest) (sym none) ∙ sym has.parts in
    subst (λ d. HasPlayed rules (with_answers rules seat key []) d) parts
    (played-with rules seat key has.first [] has.played (asked-none (pressed rules seat.session key))
    (asks-endless (pressed rules seat.session key)))

-- the answers of a dialog with one call more
answers-more : (dialog : Dialog) (call : Call) (answer : Answer)
    → answers_of (dialog ++ (call, answer) ∷ []) ≡ answers_of dialog ++ answer ∷ []
answers-more dialog call answer = map-append (λ (pair : Call × Answer). pair.1) dialog ((call, answer) ∷ [])

-- a seat has played whose key under way got an answer to the call that it asked
pub played-answered : (rules : List Rule) (seat : Seat) (call : Call) (answer : Answer) (dialog : Dialog)
    → HasPlayed rules seat dialog → asked_in rules seat ≡ Some call
    → HasPlayed rules (answered rules seat answer) (dialog ++ (call, answer) ∷ [])
played-answered rules seat call answer dialog has asks = by seat.under_way refl asks
  where
    by : (under : Option UnderWay) → seat.under_way ≡ under
        → option_and_then (λ (key : UnderWay). next_asked (pressed rules seat.session key.key) key.answers) under
        ≡ Some call
        → HasPlayed rules
        (option_map_or (λ (key : UnderWay). with_answers rules seat key.key (key.answers ++ answer ∷ [])) under seat)
        (dialog ++ (call, answer) ∷ [])
    by None e next = absurd (cc)
    by (Some key) e next =
        let way : IsUnderWay rules seat.session (Some key) has.rest =
        subst (λ (under : Option UnderWay). IsUnderWay rules seat.session under has.rest) e has.under_way in
        let tree = pressed rules seat.session key.key in
        let rest = has.rest ++ (call, answer) ∷ [] in
        let asked_next : next_asked tree (answers_of has.rest) ≡ Some call =
        ap (λ answers. next_asked tree answers) way.0 ∙ next in
        let grown : answers_of rest ≡ answers_of has.rest ++ answer ∷ [] = answers-more has.rest call answer in
        let asks_rest : HasAsked tree rest =
        ap (λ answers. asked tree answers) grown ∙ asked-next tree (answers_of has.rest) call answer asked_next
        ∙ ap (λ calls. calls ++ call ∷ []) way.1
        ∙ sym (map-append (λ (pair : Call × Answer). pair.0) has.rest ((call, answer) ∷ [])) in
        let more : end_of tree (answers_of rest) ≡ None
        → (other : Call) × (next_asked tree (answers_of rest) ≡ Some other) =
        λ none. subst (λ answers. (other : Call) × (next_asked tree answers ≡ Some other)) (sym grown)
        (asks-again tree (answers_of has.rest) call answer asked_next
        (ap (λ answers. end_of tree answers) (sym grown) ∙ none)) in
        let answers : answers_of rest ≡ key.answers ++ answer ∷ [] =
        grown ∙ ap (λ answers. answers ++ answer ∷ []) way.0 in
        let parts : has.first ++ rest ≡ dialog ++ (call, answer) ∷ [] =
        sym (append_assoc has.first has.rest ((call, answer) ∷ []))
        ∙ ap (λ d. d ++ (call, answer) ∷ []) (sym has.parts) in
        subst (λ d. HasPlayed rules (with_answers rules seat key.key (key.answers ++ answer ∷ [])) d) parts
        (subst (λ given. HasPlayed rules (with_answers rules seat key.key given) (has.first ++ rest)) answers
        (played-with rules seat key.key has.first rest has.played asks_rest more))
