-- What callers by their numbers have said, for each task.
use Rattle.std.proofs.Common.{◌≡◌, ◌∙◌, ap, sym, subst, refl, arith, ℕ, ◌+◌, ◌≤◌, Bool, true}
use Rattle.std.proofs.Common.{List, [], ◌∷◌, length, map}
use Rattle.std.proofs.lemmas.List.{length-map}
use Rattle.romaji_rules.specs.declared.rule.Rule.{Rule}
use Rattle.skk_calls.specs.InteractionLaws.{asked-none, led-end}
use Rattle.skk_calls.specs.Interactions.{Dialog, Leads, ends, asked, calls_of, answers_of}
use Rattle.script_typing.specs.Callers.{AreCallers, AskFrom, CountFrom, EndFrom, HaveAsked, LeadFrom}
use Rattle.script_typing.specs.Pages.{PageMap}
use Rattle.script_typing.specs.Sessions.{SessionMap}
use Rattle.script_typing.specs.Woven.{Tasks, task_typing, place_of}
use Rattle.script_typing.specs.Workers.{AreDone}
use Rattle.script_typing.proofs.Tasks.{said_of}

module _ (table : List Rule) (said : ℕ → Dialog) where
  -- callers that have asked the first of what their tasks ask, and no others
  asked-from : (first : ℕ) (tasks : Tasks) (numbers : List ℕ) → CountFrom first numbers
      → ((number : ℕ) → first + length numbers ≤ number → said number ≡ [])
      → HaveAsked table tasks (map said numbers) → AskFrom table said first tasks
  asked-from first [] numbers counted strangers asks = tt
  asked-from first (task ∷ tasks) [] counted strangers asks = (
    subst (λ (d : Dialog). asked (task_typing table task) (answers_of d) ≡ calls_of d)
        (sym (strangers first (omega arith))) (asked-none (task_typing table task)),
    asked-from (first + 1) tasks [] tt (λ number behind. strangers number (omega (arith, behind))) tt,
  )
  asked-from first (task ∷ tasks) (number ∷ numbers) counted strangers asks = (
    subst (λ n. asked (task_typing table task) (answers_of (said n)) ≡ calls_of (said n)) counted.0 asks.0,
    asked-from (first + 1) tasks numbers counted.1 (λ other behind. strangers other (omega (arith, behind))) asks.1,
  )

  pub callers-asked : (tasks : Tasks) (numbers : List ℕ) (dialogs : List Dialog) → AreCallers said numbers dialogs
      → HaveAsked table tasks dialogs → AskFrom table said 0 tasks
  callers-asked tasks numbers dialogs callers asks =
      asked-from 0 tasks numbers callers.counted
      (λ number behind. callers.strangers number (omega (arith, behind)))
      (subst (λ (ds : List Dialog). HaveAsked table tasks ds) callers.said_by asks)

  -- callers whose tasks are done whole have said all that these ask
  done-from : (first : ℕ) (tasks : Tasks) (numbers : List ℕ) (pages : PageMap) (sessions : SessionMap)
      → CountFrom first numbers → AreDone table true tasks (map said numbers) pages sessions
      → LeadFrom table said first tasks
  done-from first [] numbers pages sessions counted done = tt
  done-from first (task ∷ tasks) [] pages sessions counted done = absurd done
  done-from first (task ∷ tasks) (number ∷ numbers) [] sessions counted done = absurd done
  done-from first (task ∷ tasks) (number ∷ numbers) (page ∷ pages) [] counted done = absurd done
  done-from first (task ∷ tasks) (number ∷ numbers) (page ∷ pages) (session ∷ sessions) counted done = (
    (
      session.1,
      subst (λ n. Leads (task_typing table task) (said n) [] (ends session.1)) counted.0 (done.2.leads refl),
    ),
    done-from (first + 1) tasks numbers pages sessions counted.1 done.3,
  )

  pub callers-lead : (tasks : Tasks) (numbers : List ℕ) (dialogs : List Dialog) (pages : PageMap)
      (sessions : SessionMap) → AreCallers said numbers dialogs → AreDone table true tasks dialogs pages sessions
      → LeadFrom table said 0 tasks
  callers-lead tasks numbers dialogs pages sessions callers done =
      done-from 0 tasks numbers pages sessions callers.counted
      (subst (λ (ds : List Dialog). AreDone table true tasks ds pages sessions) callers.said_by done)

  -- what leads to an end is all that is asked
  pub lead-end : (first : ℕ) (tasks : Tasks) → LeadFrom table said first tasks → EndFrom table said first tasks
  lead-end first [] leads = tt
  lead-end first (task ∷ tasks) leads =
      ((leads.0.0, led-end leads.0.1), lead-end (first + 1) tasks leads.1)

  -- as many dialogs are left as there are tasks
  pub dialogs-done : (whole : Bool) (tasks : Tasks) (dialogs : List Dialog) (pages : PageMap) (sessions : SessionMap)
      → AreDone table whole tasks dialogs pages sessions → length dialogs ≡ length tasks
  dialogs-done whole [] [] pages sessions done = refl
  dialogs-done whole [] (d ∷ dialogs) pages sessions done = absurd done
  dialogs-done whole (task ∷ tasks) [] pages sessions done = absurd done
  dialogs-done whole (task ∷ tasks) (d ∷ dialogs) [] sessions done = absurd done
  dialogs-done whole (task ∷ tasks) (d ∷ dialogs) (page ∷ pages) [] done = absurd done
  dialogs-done whole (task ∷ tasks) (d ∷ dialogs) (page ∷ pages) (session ∷ sessions) done =
      omega (arith, dialogs-done whole tasks dialogs pages sessions done.3)

-- what was said for the session of a number is what the caller of its place has said
said-at : (said : ℕ → Dialog) (first : ℕ) (tasks : Tasks) (numbers : List ℕ) → CountFrom first numbers
    → length numbers ≡ length tasks → said (first + length tasks) ≡ [] → (number : ℕ)
    → said_of tasks (map said numbers) number ≡ said (first + place_of tasks number)
said-at said first [] numbers counted same none number = sym none
said-at said first (task ∷ tasks) [] counted same none number = absurd (omega (arith, same))
said-at said first (task ∷ tasks) (caller ∷ numbers) counted same none number =
    grind (
      arith,
      counted.0,
      said-at said (first + 1) tasks numbers counted.1 (omega (arith, same))
          (ap said (omega arith) ∙ none) number,
    )

pub said-of : (said : ℕ → Dialog) (tasks : Tasks) (numbers : List ℕ) (dialogs : List Dialog)
    → AreCallers said numbers dialogs → length dialogs ≡ length tasks → (number : ℕ)
    → said_of tasks dialogs number ≡ said (place_of tasks number)
said-of said tasks numbers dialogs callers same number =
    let long : length numbers ≡ length tasks =
    sym (length-map numbers said) ∙ ap length (sym callers.said_by) ∙ same in
    ap (λ ds. said_of tasks ds number) callers.said_by
    ∙ said-at said 0 tasks numbers callers.counted long
    (callers.strangers (0 + length tasks) (omega (arith, long))) number
    ∙ ap said (omega arith)
