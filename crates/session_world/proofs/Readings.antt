-- What interactions ask and end with, one behind another, and by one answer more.
use Rattle.std.proofs.Common.{◌≡◌, ◌∙◌, ap, refl, arith, true, Some, None, List, [], ◌∷◌, ◌++◌, ℕ}
use Rattle.skk_text.specs.declared.key.Key.{Key}
use Rattle.romaji_rules.specs.declared.rule.Rule.{Rule}
use Rattle.skk_calls.specs.declared.answer.Answer.{Answer}
use Rattle.skk_calls.specs.declared.call.Call.{Call}
use Rattle.skk_calls.specs.Dictionary.{may_answer}
use Rattle.skk_calls.specs.Interactions.{Interaction, ends, asks, prints, followed_by, asked, end_of}
use Rattle.skk_calls.specs.InteractionLaws.{asked-none}
use Rattle.session_machine.specs.NextAsked.{next_asked, may_answer_all}
use Rattle.session_machine.specs.Pressed.{pressed, all_pressed}
use Rattle.session_machine.specs.Session.{Session}

-- One behind another

-- the end behind an interaction that came to its end by the first answers
pub end-followed : {S T : Type 0} (first : Interaction S) (behind : S → Interaction T) (answers more : List Answer)
    (end : S) → end_of first answers ≡ Some end
    → end_of (followed_by first behind) (answers ++ more) ≡ end_of (behind end) more
end-followed (ends value) behind [] more end e =
    let same : value ≡ end = cc in ap (λ v. end_of (behind v) more) same
end-followed (ends value) behind (answer ∷ answers) more end e = absurd (cc)
end-followed (asks call next) behind [] more end e = absurd (cc)
end-followed (asks call next) behind (answer ∷ answers) more end e =
    end-followed (next answer) behind answers more end e
end-followed (prints text rest) behind answers more end e = end-followed rest behind answers more end e

-- and what was asked
pub asked-followed : {S T : Type 0} (first : Interaction S) (behind : S → Interaction T) (answers more : List Answer)
    (end : S) → end_of first answers ≡ Some end
    → asked (followed_by first behind) (answers ++ more) ≡ asked first answers ++ asked (behind end) more
asked-followed (ends value) behind [] more end e =
    let same : value ≡ end = cc in ap (λ v. asked (behind v) more) same
asked-followed (ends value) behind (answer ∷ answers) more end e = absurd (cc)
asked-followed (asks call next) behind [] more end e = absurd (cc)
asked-followed (asks call next) behind (answer ∷ answers) more end e =
    ap (λ calls. call ∷ calls) (asked-followed (next answer) behind answers more end e)
asked-followed (prints text rest) behind answers more end e = asked-followed rest behind answers more end e

-- two interactions ask and end alike
pub record Alike {S : Type 0} (one other : Interaction S) : Type 0 where
  pub end : (answers : List Answer) → end_of one answers ≡ end_of other answers
  pub asks : (answers : List Answer) → asked one answers ≡ asked other answers

-- they do by the same further answers
alike-next : {S : Type 0} (call : Call) (next other : Answer → Interaction S)
    → ((answer : Answer) → Alike (next answer) (other answer)) → Alike (asks call next) (asks call other)
alike-next {S} call next other alike = record { end = end_by; asks = asks_by }
  where
    end_by : (answers : List Answer) → end_of (asks call next) answers ≡ end_of (asks call other) answers
    end_by [] = refl
    end_by (answer ∷ answers) = (alike answer).end answers

    asks_by : (answers : List Answer) → asked (asks call next) answers ≡ asked (asks call other) answers
    asks_by [] = refl
    asks_by (answer ∷ answers) = ap (λ calls. call ∷ calls) ((alike answer).asks answers)

-- the same behind what is printed
alike-printed : {S : Type 0} (text : List ℕ) (one other : Interaction S) → Alike one other
    → Alike (prints text one) (prints text other)
alike-printed text one other alike =
    record { end = λ answers. alike.end answers; asks = λ answers. alike.asks answers }

-- nothing follows where the value of the end is all that comes behind it
pub alike-ended : {S : Type 0} (first : Interaction S) → Alike (followed_by first (λ end. ends end)) first
alike-ended (ends value) = record { end = λ answers. refl; asks = λ answers. refl }
alike-ended (asks call next) =
    alike-next call (λ answer. followed_by (next answer) (λ end. ends end)) next (λ answer. alike-ended (next answer))
alike-ended (prints text rest) = alike-printed text (followed_by rest (λ end. ends end)) rest (alike-ended rest)

-- what follows in two steps follows in one
pub alike-followed : {S T U : Type 0} (first : Interaction S) (both : S → Interaction U) (one : S → Interaction T)
    (two : T → Interaction U) → ((end : S) → Alike (both end) (followed_by (one end) two))
    → Alike (followed_by first both) (followed_by (followed_by first one) two)
alike-followed (ends value) both one two alike = alike value
alike-followed (asks call next) both one two alike =
    alike-next call (λ answer. followed_by (next answer) both)
    (λ answer. followed_by (followed_by (next answer) one) two)
    (λ answer. alike-followed (next answer) both one two alike)
alike-followed (prints text rest) both one two alike =
    alike-printed text (followed_by rest both) (followed_by (followed_by rest one) two)
    (alike-followed rest both one two alike)

-- keys with one more are those keys, and then that one
pub alike-pressed : (rules : List Rule) (session : Session) (keys : List Key) (key : Key)
    → Alike (all_pressed rules session (keys ++ key ∷ []))
    (followed_by (all_pressed rules session keys) (λ after. pressed rules after key))
alike-pressed rules session [] key = alike-ended (pressed rules session key)
alike-pressed rules session (first ∷ keys) key =
    alike-followed (pressed rules session first) (λ after. all_pressed rules after (keys ++ key ∷ []))
    (λ after. all_pressed rules after keys) (λ after. pressed rules after key)
    (λ after. alike-pressed rules after keys key)

-- One answer more

-- the call that is asked next is asked by one answer more
pub asked-next : {S : Type 0} (interaction : Interaction S) (answers : List Answer) (call : Call) (answer : Answer)
    → next_asked interaction answers ≡ Some call
    → asked interaction (answers ++ answer ∷ []) ≡ asked interaction answers ++ call ∷ []
asked-next (ends value) answers call answer e = absurd (cc)
asked-next (asks first next) [] call answer e =
    let same : first ≡ call = cc in
    ap (λ calls. first ∷ calls) (asked-none (next answer)) ∙ ap (λ c. c ∷ []) same
asked-next (asks first next) (given ∷ answers) call answer e =
    ap (λ calls. first ∷ calls) (asked-next (next given) answers call answer e)
asked-next (prints text rest) answers call answer e = asked-next rest answers call answer e

-- an interaction that does not end by no answer asks
pub asks-endless : {S : Type 0} (interaction : Interaction S) → end_of interaction [] ≡ None
    → (call : Call) × (next_asked interaction [] ≡ Some call)
asks-endless (ends value) e = absurd (cc)
asks-endless (asks call next) e = (call, refl)
asks-endless (prints text rest) e = asks-endless rest e

-- and one that asked, and does not end by one answer more, asks again
pub asks-again : {S : Type 0} (interaction : Interaction S) (answers : List Answer) (call : Call) (answer : Answer)
    → next_asked interaction answers ≡ Some call → end_of interaction (answers ++ answer ∷ []) ≡ None
    → (other : Call) × (next_asked interaction (answers ++ answer ∷ []) ≡ Some other)
asks-again (ends value) answers call answer e none = absurd (cc)
asks-again (asks first next) [] call answer e none = asks-endless (next answer) none
asks-again (asks first next) (given ∷ answers) call answer e none =
    asks-again (next given) answers call answer e none
asks-again (prints text rest) answers call answer e none = asks-again rest answers call answer e none

-- no answer is one that may not be given
pub may-answer-none : {S : Type 0} (interaction : Interaction S) → may_answer_all interaction [] ≡ true
may-answer-none (ends value) = refl
may-answer-none (asks call next) = refl
may-answer-none (prints text rest) = may-answer-none rest

-- answers that may be given, with one more that the call may get which is asked behind them
pub may-answer-more : {S : Type 0} (interaction : Interaction S) (answers : List Answer) (call : Call)
    (answer : Answer) → may_answer_all interaction answers ≡ true → next_asked interaction answers ≡ Some call
    → may_answer call answer ≡ true → may_answer_all interaction (answers ++ answer ∷ []) ≡ true
may-answer-more (ends value) answers call answer all e may = refl
may-answer-more (asks first next) [] call answer all e may =
    grind (arith, may-answer-none (next answer))
may-answer-more (asks first next) (given ∷ answers) call answer all e may =
    grind (arith, may-answer-more (next given) answers call answer)
may-answer-more (prints text rest) answers call answer all e may =
    may-answer-more rest answers call answer all e may
