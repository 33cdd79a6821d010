-- The callers of tasks, each with a number of its own, and what they have said.
use Rattle.std.specs.Prelude.{◌≡◌, ⊤, ℕ, ◌+◌, ◌≤◌, Some, List, [], ◌∷◌, length, map}
use Rattle.romaji_rules.specs.declared.rule.Rule.{Rule}
use Rattle.skk_calls.specs.Interactions.{Dialog, Leads, ends, asked, end_of, calls_of, answers_of}
use Rattle.session_machine.specs.Session.{Session}
use Rattle.script_typing.specs.Woven.{Tasks, task_typing}

-- numbers count on from the first
abbrev pub CountFrom : ℕ → List ℕ → Type 0
CountFrom first [] = ⊤
CountFrom first (number ∷ numbers) = (number ≡ first) × CountFrom (first + 1) numbers

-- dialogs are the first of what the first of tasks ask, in their order
abbrev pub HaveAsked : List Rule → Tasks → List Dialog → Type 0
HaveAsked rules tasks [] = ⊤
HaveAsked rules [] (said ∷ dialogs) = ⊥
HaveAsked rules (task ∷ tasks) (said ∷ dialogs) =
    (asked (task_typing rules task) (answers_of said) ≡ calls_of said) × HaveAsked rules tasks dialogs

-- callers of numbers from 0 on, and what each has said by its number; no other number has said anything
pub record AreCallers (said : ℕ → Dialog) (numbers : List ℕ) (dialogs : List Dialog) : Type 0 where
  pub counted : CountFrom 0 numbers
  pub said_by : dialogs ≡ map said numbers
  pub strangers : (number : ℕ) → length numbers ≤ number → said number ≡ []

-- from a place on, the caller of each task's place has said the first of what the task asks, each call by the answers
-- before it
abbrev pub AskFrom : List Rule → (ℕ → Dialog) → ℕ → Tasks → Type 0
AskFrom rules said place [] = ⊤
AskFrom rules said place (task ∷ tasks) =
    (asked (task_typing rules task) (answers_of (said place)) ≡ calls_of (said place))
    × AskFrom rules said (place + 1) tasks

-- and that is all that each asks
abbrev pub EndFrom : List Rule → (ℕ → Dialog) → ℕ → Tasks → Type 0
EndFrom rules said place [] = ⊤
EndFrom rules said place (task ∷ tasks) =
    ((session : Session) × (end_of (task_typing rules task) (answers_of (said place)) ≡ Some session))
    × EndFrom rules said (place + 1) tasks

-- what each has said leads its task to its end
abbrev pub LeadFrom : List Rule → (ℕ → Dialog) → ℕ → Tasks → Type 0
LeadFrom rules said place [] = ⊤
LeadFrom rules said place (task ∷ tasks) =
    ((session : Session) × Leads (task_typing rules task) (said place) [] (ends session))
    × LeadFrom rules said (place + 1) tasks
