-- What a caller that gives known answers tells of an interaction that came to its end.
use Rattle.std.proofs.Common.{◌≡◌, ◌≢◌, ◌∙◌, inl, inr, sym, ap, refl, subst, true}
use Rattle.std.proofs.Common.{append_assoc, Some, None, List, [], ◌∷◌, ◌++◌}
use Rattle.std.proofs.lemmas.List.{append-nil, map-append}
use Rattle.skk_calls.specs.declared.answer.Answer.{Answer}
use Rattle.skk_calls.specs.declared.answer.Answer.TheVariants.{Refused}
use Rattle.skk_calls.specs.declared.answer.Refusal.TheVariants.{Memory}
use Rattle.skk_calls.specs.declared.call.Call.{Call}
use Rattle.skk_calls.specs.Dictionary.{is_fit}
use Rattle.skk_calls.specs.Interactions.{Interaction, Dialog, Comes, ends, asks, prints, end_of, answers_of}
use Rattle.session_machine.specs.Meanings.{Meaning}
use Rattle.session_machine.specs.NextAsked.{next_asked}
use Rattle.session_machine.specs.Replayed.{Gives, IsReplay, Keeps, Replays, end_behind}
use Rattle.session_machine.specs.Session.{Session}
use Rattle.session_machine.specs.declared.known_answers.KnownAnswers.{KnownAnswers}
use Rattle.session_machine.specs.declared.known_answers.Stage.{Stage}
use Rattle.session_machine.specs.declared.known_answers.Stage.TheVariants.{Giving, Kept, Failed}

-- an interaction that came to its end by a dialog asks nothing behind it
pub comes-asks-none : {S : Type 0} (interaction : Interaction S) (dialog : Dialog) (end : S) (more : List Answer)
    → Comes interaction dialog end → next_asked interaction (answers_of dialog ++ more) ≡ None
comes-asks-none (ends value) [] end more comes = refl
comes-asks-none (asks call next) (pair ∷ dialog) end more comes =
    comes-asks-none (next pair.1) dialog end more comes.1
comes-asks-none (asks call next) [] end more comes = absurd comes
comes-asks-none (ends value) (pair ∷ dialog) end more comes = absurd comes
comes-asks-none (prints text rest) [] end more comes = absurd comes
comes-asks-none (prints text rest) (pair ∷ dialog) end more comes = absurd comes

-- just the answers of the dialog lead to the end
pub comes-ends : {S : Type 0} (interaction : Interaction S) (dialog : Dialog) (end : S)
    → Comes interaction dialog end → end_of interaction (answers_of dialog) ≡ Some end
comes-ends (ends value) [] end comes = ap Some comes
comes-ends (asks call next) (pair ∷ dialog) end comes = comes-ends (next pair.1) dialog end comes.1
comes-ends (asks call next) [] end comes = absurd comes
comes-ends (ends value) (pair ∷ dialog) end comes = absurd comes
comes-ends (prints text rest) [] end comes = absurd comes
comes-ends (prints text rest) (pair ∷ dialog) end comes = absurd comes

-- and no more answers do
pub comes-ends-alone : {S : Type 0} (interaction : Interaction S) (dialog : Dialog) (end : S) (answer : Answer)
    (more : List Answer) → Comes interaction dialog end
    → end_of interaction (answers_of dialog ++ answer ∷ more) ≡ None
comes-ends-alone (ends value) [] end answer more comes = refl
comes-ends-alone (asks call next) (pair ∷ dialog) end answer more comes =
    comes-ends-alone (next pair.1) dialog end answer more comes.1
comes-ends-alone (asks call next) [] end answer more comes = absurd comes
comes-ends-alone (ends value) (pair ∷ dialog) end answer more comes = absurd comes
comes-ends-alone (prints text rest) [] end answer more comes = absurd comes
comes-ends-alone (prints text rest) (pair ∷ dialog) end answer more comes = absurd comes

-- a call of the dialog is asked behind those before it
pub comes-asks : {S : Type 0} (interaction : Interaction S) (first : Dialog) (call : Call) (answer : Answer)
    (rest : Dialog) (end : S) → Comes interaction (first ++ (call, answer) ∷ rest) end
    → next_asked interaction (answers_of first) ≡ Some call
comes-asks (asks asked next) [] call answer rest end comes = ap Some comes.0
comes-asks (asks asked next) (pair ∷ first) call answer rest end comes =
    comes-asks (next pair.1) first call answer rest end comes.1
comes-asks (ends value) [] call answer rest end comes = absurd comes
comes-asks (ends value) (pair ∷ first) call answer rest end comes = absurd comes
comes-asks (prints text more) [] call answer rest end comes = absurd comes
comes-asks (prints text more) (pair ∷ first) call answer rest end comes = absurd comes

-- and the answers before it lead to no end
pub comes-ends-later : {S : Type 0} (interaction : Interaction S) (first : Dialog) (call : Call) (answer : Answer)
    (rest : Dialog) (end : S) → Comes interaction (first ++ (call, answer) ∷ rest) end
    → end_of interaction (answers_of first) ≡ None
comes-ends-later (asks asked next) [] call answer rest end comes = refl
comes-ends-later (asks asked next) (pair ∷ first) call answer rest end comes =
    comes-ends-later (next pair.1) first call answer rest end comes.1
comes-ends-later (ends value) [] call answer rest end comes = absurd comes
comes-ends-later (ends value) (pair ∷ first) call answer rest end comes = absurd comes
comes-ends-later (prints text more) [] call answer rest end comes = absurd comes
comes-ends-later (prints text more) (pair ∷ first) call answer rest end comes = absurd comes

-- A caller that gives known answers

-- the answers of a dialog with one call more
answers-more : (said : Dialog) (call : Call) (answer : Answer)
    → answers_of (said ++ (call, answer) ∷ []) ≡ answers_of said ++ answer ∷ []
answers-more said call answer = map-append (λ (pair : Call × Answer). pair.1) said ((call, answer) ∷ [])

-- a call behind the one that was kept is refused
pub replays-refused : (answers : List Answer) (said : Dialog) (left : List Answer) (stage : Stage) (call : Call)
    → stage ≢ Giving → Replays answers said left stage
    → Replays answers (said ++ (call, Refused Memory) ∷ []) left stage
replays-refused answers said left Giving call other replays = absurd (other refl)
replays-refused answers said left (Kept kept) call other (fit, first, rest, all, grows) = (
  fit,
  first,
  rest ++ (call, Refused Memory) ∷ [],
  all,
  ap (λ d. d ++ (call, Refused Memory) ∷ []) grows
      ∙ append_assoc first ((kept, Refused Memory) ∷ rest) ((call, Refused Memory) ∷ []),
)
replays-refused answers said left Failed call other replays = tt

-- the call behind all answers is kept, and refused
pub replays-kept : (answers : List Answer) (said : Dialog) (left : List Answer) (stage : Stage) (call : Call)
    → left ≡ [] → is_fit call ≡ true → Keeps call stage → Replays answers said left Giving
    → Replays answers (said ++ (call, Refused Memory) ∷ []) left stage
replays-kept answers said left Giving call none fit keeps replays = absurd keeps
replays-kept answers said left (Kept kept) call none fit keeps replays = (
  ap is_fit keeps ∙ fit,
  said,
  [],
  replays ∙ ap (λ l. answers_of said ++ l) none ∙ append-nil (answers_of said),
  ap (λ c. said ++ (c, Refused Memory) ∷ []) (sym keeps),
)
replays-kept answers said left Failed call none fit keeps replays = tt

-- the next answer is given
pub replays-given : (answers : List Answer) (said : Dialog) (left behind : List Answer) (call : Call)
    (answer : Answer) → left ≡ answer ∷ behind → Replays answers said left Giving
    → Replays answers (said ++ (call, answer) ∷ []) behind Giving
replays-given answers said left behind call answer next replays =
    replays ∙ ap (λ l. answers_of said ++ l) next
    ∙ sym (append_assoc (answers_of said) (answer ∷ []) behind)
    ∙ ap (λ a. a ++ behind) (sym (answers-more said call answer))

-- the same of a caller that gives no more
pub replay-refused-before : (answers : List Answer) (known : KnownAnswers) (said : Dialog) (call : Call)
    → known.stage ≢ Giving → IsReplay answers known said → IsReplay answers known (said ++ (call, Refused Memory) ∷ [])
replay-refused-before answers known said call other before =
    replays-refused answers said known.left.now known.stage call other before

-- a caller that had given all answers keeps the call behind them

pub replay-kept : (answers : List Answer) (known after : KnownAnswers) (said : Dialog) (call : Call)
    → known.left.now ≡ [] → known.stage ≡ Giving → is_fit call ≡ true
    → record after { stage = known.stage } ≡ known → Keeps call after.stage → IsReplay answers known said
    → IsReplay answers after (said ++ (call, Refused Memory) ∷ [])
replay-kept answers known after said call none giving fit same keeps before =
    let left : after.left.now ≡ known.left.now = ap (λ (k : KnownAnswers). k.left.now) same in
    replays-kept answers said after.left.now after.stage call (left ∙ none) fit keeps
    (subst (λ l. Replays answers said l Giving) (sym left)
    (subst (λ s. Replays answers said known.left.now s) giving before))

-- and one that gave some gives the next

pub replay-given : (answers : List Answer) (known after : KnownAnswers) (said : Dialog) (call : Call) (answer : Answer)
    → known.stage ≡ Giving → Gives known answer after
    → IsReplay answers known said → IsReplay answers after (said ++ (call, answer) ∷ [])
replay-given answers known after said call answer giving (inl failed) before =
    subst (λ (k : KnownAnswers). IsReplay answers k (said ++ (call, answer) ∷ [])) (sym failed) tt
replay-given answers known after said call answer giving (inr (next, same)) before =
    subst (λ s. Replays answers (said ++ (call, answer) ∷ []) after.left.now s) (sym (same ∙ giving))
    (replays-given answers said known.left.now after.left.now call answer next
    (subst (λ s. Replays answers said known.left.now s) giving before))

pub ruleset replays = (replay-refused-before, replay-kept, replay-given)

-- What such a caller tells

-- where all calls got their answers nothing is asked behind these
pub giving-asks-none : {S : Type 0} (meaning : Interaction S) (answers : List Answer) (said : Dialog)
    (left : List Answer) (end : S) → Replays answers said left Giving → Comes meaning said end
    → next_asked meaning answers ≡ None
giving-asks-none meaning answers said left end replays comes =
    ap (λ a. next_asked meaning a) replays ∙ comes-asks-none meaning said end left comes

-- they lead to its end where none is left
pub giving-ends : {S : Type 0} (meaning : Interaction S) (answers : List Answer) (said : Dialog)
    (left : List Answer) (end : S) → left ≡ [] → Replays answers said left Giving → Comes meaning said end
    → end_of meaning answers ≡ Some end
giving-ends meaning answers said left end none replays comes =
    ap (λ a. end_of meaning a)
    (replays ∙ ap (λ l. answers_of said ++ l) none ∙ append-nil (answers_of said))
    ∙ comes-ends meaning said end comes

-- and to none where one is left
pub giving-ends-not : {S : Type 0} (meaning : Interaction S) (answers : List Answer) (said : Dialog)
    (left : List Answer) (end : S) → left ≢ [] → Replays answers said left Giving → Comes meaning said end
    → end_of meaning answers ≡ None
giving-ends-not meaning answers said [] end some replays comes = absurd (some refl)
giving-ends-not meaning answers said (answer ∷ left) end some replays comes =
    ap (λ a. end_of meaning a) replays ∙ comes-ends-alone meaning said end answer left comes

-- so they lead to the end exactly where none is left
pub giving-end : (meaning : Meaning) (answers : List Answer) (said : Dialog) (left : List Answer) (end : Session)
    → Replays answers said left Giving → Comes meaning said end → end_of meaning answers ≡ end_behind left end
giving-end meaning answers said [] end replays comes = giving-ends meaning answers said [] end refl replays comes
giving-end meaning answers said (answer ∷ left) end replays comes =
    giving-ends-not meaning answers said (answer ∷ left) end (λ none. cc) replays comes

-- the call that was kept is asked behind the answers
pub kept-asks : {S : Type 0} (meaning : Interaction S) (answers : List Answer) (said : Dialog) (left : List Answer)
    (call : Call) (end : S) → Replays answers said left (Kept call) → Comes meaning said end
    → next_asked meaning answers ≡ Some call
kept-asks meaning answers said left call end (fit, first, rest, all, grows) comes =
    ap (λ a. next_asked meaning a) all
    ∙ comes-asks meaning first call (Refused Memory) rest end (subst (λ d. Comes meaning d end) grows comes)

-- and they lead to no end
pub kept-ends-not : {S : Type 0} (meaning : Interaction S) (answers : List Answer) (said : Dialog)
    (left : List Answer) (call : Call) (end : S) → Replays answers said left (Kept call) → Comes meaning said end
    → end_of meaning answers ≡ None
kept-ends-not meaning answers said left call end (fit, first, rest, all, grows) comes =
    ap (λ a. end_of meaning a) all
    ∙ comes-ends-later meaning first call (Refused Memory) rest end (subst (λ d. Comes meaning d end) grows comes)
