-- What a program asks of a dictionary and prints, one thing after another, each by the answers before it.
use Rattle.std.specs.Prelude.{◌≡◌, ⊤, ℕ, Option, None, Some, List, [], ◌∷◌, ◌++◌, map}
use Rattle.skk_calls.specs.declared.answer.Answer.{Answer}
use Rattle.skk_calls.specs.declared.answer.Answer.TheVariants.{Done}
use Rattle.skk_calls.specs.declared.call.Call.{Call}
use Rattle.skk_calls.specs.Dictionary.{answer, after}
use Rattle.skk_calls.specs.Rows.{Row}
use Rattle.skk_calls.specs.States.{State}

-- an interaction: it ends with a value, makes a call and goes on by its answer, or prints a text and goes on
pub data Interaction (S : Type 0) : Type 0 where
  ends : S → Interaction S
  asks : Call → (Answer → Interaction S) → Interaction S
  prints : List ℕ → Interaction S → Interaction S

-- an interaction, and behind its end another, by the value that it ended with
abbrev pub followed_by : {S T : Type 0} → Interaction S → (S → Interaction T) → Interaction T
followed_by (ends value) behind = behind value
followed_by (asks call next) behind = asks call (λ answer. followed_by (next answer) behind)
followed_by (prints text rest) behind = prints text (followed_by rest behind)

-- the text that is printed where the calls get these answers, one after another
abbrev pub printed : {S : Type 0} → Interaction S → List Answer → List ℕ
printed (ends value) answers = []
printed (asks call next) [] = []
printed (asks call next) (answer ∷ answers) = printed (next answer) answers
printed (prints text rest) answers = text ++ printed rest answers

-- the calls that get these answers, one after another
abbrev pub asked : {S : Type 0} → Interaction S → List Answer → List Call
asked (ends value) answers = []
asked (asks call next) [] = []
asked (asks call next) (answer ∷ answers) = call ∷ asked (next answer) answers
asked (prints text rest) answers = asked rest answers

-- the value of the end, where just these answers lead to it
abbrev pub end_of : {S : Type 0} → Interaction S → List Answer → Option S
end_of (ends value) [] = Some value
end_of (ends value) (answer ∷ answers) = None
end_of (asks call next) [] = None
end_of (asks call next) (answer ∷ answers) = end_of (next answer) answers
end_of (prints text rest) answers = end_of rest answers

-- calls with their answers, in order
abbrev pub Dialog : Type 0
Dialog = List (Call × Answer)

-- an interaction makes a call first, with this answer, and what comes behind that has a property
abbrev pub AsksFirst : {S : Type 0} → Interaction S → Call × Answer → (Interaction S → Type 0) → Type 0
AsksFirst (ends value) pair Behind = ⊥
AsksFirst (asks call next) pair Behind = (call ≡ pair.0) × Behind (next pair.1)
AsksFirst (prints text rest) pair Behind = ⊥

-- an interaction makes no call, prints nothing, and ends with this value
abbrev pub EndsWith : {S : Type 0} → Interaction S → S → Type 0
EndsWith (ends value) end = value ≡ end
EndsWith (asks call next) end = ⊥
EndsWith (prints text rest) end = ⊥

-- the dialog is all that an interaction asks, which prints nothing, and this the value of its end
abbrev pub Comes : {S : Type 0} → Interaction S → Dialog → S → Type 0
Comes interaction [] end = EndsWith interaction end
Comes interaction (pair ∷ dialog) end = AsksFirst interaction pair (λ behind. Comes behind dialog end)

-- the dialog is the first that an interaction asks, or all of it, and nothing is printed before its end
abbrev pub Begins : {S : Type 0} → Interaction S → Dialog → Type 0
Begins interaction [] = ⊤
Begins interaction (pair ∷ dialog) = AsksFirst interaction pair (λ behind. Begins behind dialog)

-- an interaction asks a dialog and prints a text, and then goes on as another
pub data Leads {S : Type 0} : Interaction S → Dialog → List ℕ → Interaction S → Type 0 where
  here : (interaction : Interaction S) → Leads interaction [] [] interaction
  asking : (call : Call) (next : Answer → Interaction S) (answer : Answer) (dialog : Dialog) (text : List ℕ)
      (behind : Interaction S)
      → Leads (next answer) dialog text behind → Leads (asks call next) ((call, answer) ∷ dialog) text behind
  printing : (first : List ℕ) (rest : Interaction S) (dialog : Dialog) (text : List ℕ) (behind : Interaction S)
      → Leads rest dialog text behind → Leads (prints first rest) dialog (first ++ text) behind

-- the calls of a dialog
abbrev pub calls_of : Dialog → List Call
calls_of dialog = map (λ pair. pair.0) dialog

-- the answers of a dialog
abbrev pub answers_of : Dialog → List Answer
answers_of dialog = map (λ pair. pair.1) dialog

-- each call of a dialog is answered by the dictionary of one thread, from a state on
abbrev pub IsAnsweredAlone : List (List Row) → State → Dialog → Type 0
IsAnsweredAlone files state [] = ⊤
IsAnsweredAlone files state (pair ∷ dialog) =
    (pair.1 ≡ Done (answer files state pair.0)) × IsAnsweredAlone files (after state pair.0) dialog

-- the text that is printed where the dictionary of one thread answers, from a state on
abbrev pub printed_alone : {S : Type 0} → List (List Row) → State → Interaction S → List ℕ
printed_alone files state (ends value) = []
printed_alone files state (asks call next) =
    printed_alone files (after state call) (next (Done (answer files state call)))
printed_alone files state (prints text rest) = text ++ printed_alone files state rest
