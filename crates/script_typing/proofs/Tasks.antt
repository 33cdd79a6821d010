-- What is left of tasks, by the numbers of their sessions.
use Rattle.std.proofs.Common.{◌≡◌, sym, refl, arith, ℕ, ◌==◌, Bool, true, false, cond}
use Rattle.std.proofs.Common.{All}
use Rattle.std.proofs.Common.{Some, List, [], ◌∷◌, ◌++◌, append_assoc}
use Rattle.std.proofs.lemmas.Cmp.{tied_itself}
use Rattle.std.proofs.lemmas.List.{append-nil}
use Rattle.std.proofs.lemmas.List.Elements.{All-from_recursion}
use Rattle.std.proofs.lemmas.List.Folds.{list_all-append}
use Rattle.std.specs.BTreeMap.{insert_entry, is_at}
use Rattle.std.specs.Cmp.{nat_cmp_total}
use Rattle.std.specs.List.{AllByRecursion as ByRecursion, fold, list_all}
use Rattle.std.specs.Map.{lookup, values_of}
use Rattle.std.specs.Ordering.{nat_cmp}
use Rattle.romaji_rules.specs.declared.rule.Rule.{Rule}
use Rattle.skk_calls.specs.InteractionLaws.{led-end}
use Rattle.skk_calls.specs.Interactions.{Dialog, answers_of}
use Rattle.key_scripts.specs.Script.{session_of, own_lines, opens_well}
use Rattle.key_scripts.specs.declared.line.Line.{Line}
use Rattle.session_machine.specs.Session.{Session, new_session}
use Rattle.script_typing.specs.MapLaws.{there-put, there-others, Ascend, AreAbove, ascend-put, by_number}
use Rattle.script_typing.specs.Pages.{PageMap, pages_at}
use Rattle.script_typing.specs.Sessions.{SessionMap, session_or_new}
use Rattle.script_typing.specs.Woven.{Tasks, lines_at, with_line, tasks_of}
use Rattle.script_typing.specs.Workers.{AreDone}
use Rattle.script_typing.proofs.Weaving.{own-first, own-other, IsAhead}

-- the lines of a session in tasks are its own lines
lines-of : (tasks : Tasks) (lines : List Line) (number : ℕ)
    → lines_at (fold with_line tasks lines) number ≡ lines_at tasks number ++ own_lines number lines
lines-of tasks [] number = sym (append-nil (lines_at tasks number))
lines-of tasks (line ∷ lines) number =
    let own = lines_at tasks (session_of line) in
    grind (
      arith,
      lines-of (with_line tasks line) lines number,
      there-put tasks (session_of line) (own ++ line ∷ []),
      there-others tasks (session_of line) (own ++ line ∷ []) number,
      append_assoc own (line ∷ []) (own_lines (session_of line) lines),
      own-first line lines,
      own-other line lines number,
    )

pub own-lines_of : (lines : List Line) (number : ℕ) → own_lines number lines ≡ lines_at (tasks_of lines) number
own-lines_of lines number = sym (lines-of [] lines number)

-- the numbers of tasks ascend
pub ascend-tasks : (tasks : Tasks) (lines : List Line) → Ascend tasks → Ascend (fold with_line tasks lines)
ascend-tasks tasks [] ascend = ascend
ascend-tasks tasks (line ∷ lines) ascend =
    ascend-tasks (with_line tasks line) lines
    (ascend-put tasks (session_of line) (lines_at tasks (session_of line) ++ line ∷ []) ascend)

-- each opening line of tasks has a book that may be
abbrev AreWell : Tasks → Type 0
AreWell tasks = ByRecursion (λ lines. list_all opens_well lines ≡ true) (values_of tasks)

well-at : (tasks : Tasks) (number : ℕ) → AreWell tasks → list_all opens_well (lines_at tasks number) ≡ true
well-at [] number well = refl
well-at (task ∷ tasks) number well = grind (arith, well-at tasks number well.1)

well-put : (tasks : Tasks) (number : ℕ) (lines : List Line) → AreWell tasks → list_all opens_well lines ≡ true
    → AreWell (insert_entry nat_cmp tasks number lines)
well-put [] number lines well opens = (opens, tt)
well-put (task ∷ tasks) number lines well opens = grind (arith, well-put tasks number lines well.1 opens)

well-tasks : (tasks : Tasks) (lines : List Line) → AreWell tasks → list_all opens_well lines ≡ true
    → AreWell (fold with_line tasks lines)
well-tasks tasks [] well opens = well
well-tasks tasks (line ∷ lines) well opens =
    let own = lines_at tasks (session_of line) in
    grind (
      arith,
      well-tasks (with_line tasks line) lines,
      well-put tasks (session_of line) (own ++ line ∷ []) well,
      list_all-append opens_well own (line ∷ []),
      well-at tasks (session_of line) well,
    )

pub tasks-open_well : (lines : List Line) → list_all opens_well lines ≡ true
    → All (λ own. list_all opens_well own ≡ true) (values_of (tasks_of lines))
tasks-open_well lines opens =
    All-from_recursion (λ own. list_all opens_well own ≡ true) (values_of (tasks_of lines))
    (well-tasks [] lines tt opens)

-- what was said for the session of a number
abbrev pub said_of : Tasks → List Dialog → ℕ → Dialog
said_of [] dialogs number = []
said_of (task ∷ tasks) [] number = []
said_of (task ∷ tasks) (said ∷ dialogs) number = cond (task.0 == number) said (said_of tasks dialogs number)

module _ {A : Type 0} where
  -- the first of entries is looked up by its number
  pub here-first : (key number : ℕ) (value : A) (entries : List (ℕ × A)) → key ≡ number
      → lookup (is_at (nat_cmp number)) ((key, value) ∷ entries) ≡ Some value
  here-first key number value entries is = grind (arith, tied_itself nat_cmp_total number)

  -- and passed over by another
  pub there-first : (key number : ℕ) (value : A) (entries : List (ℕ × A)) → (key == number) ≡ false
      → lookup (is_at (nat_cmp number)) ((key, value) ∷ entries) ≡ lookup (is_at (nat_cmp number)) entries
  there-first key number value entries differ = grind arith

module _ (table : List Rule) (whole : Bool) where
  -- what is left of tasks tells of each number
  pub ahead-done : (tasks : Tasks) (dialogs : List Dialog) (pages : PageMap) (sessions : SessionMap)
      → AreDone table whole tasks dialogs pages sessions → (number : ℕ)
      → IsAhead table whole number (new_session number number) (session_or_new sessions number)
      (lines_at tasks number) (answers_of (said_of tasks dialogs number)) (pages_at pages number)
  ahead-done [] [] [] [] done number = record {
    rest = [];
    printed = refl;
    all = λ w. refl;
    ended = λ w. refl;
  }
  ahead-done [] [] [] (session ∷ sessions) done number = absurd done
  ahead-done [] [] (page ∷ pages) sessions done number = absurd done
  ahead-done [] (said ∷ dialogs) pages sessions done number = absurd done
  ahead-done (task ∷ tasks) [] pages sessions done number = absurd done
  ahead-done (task ∷ tasks) (said ∷ dialogs) [] sessions done number = absurd done
  ahead-done (task ∷ tasks) (said ∷ dialogs) (page ∷ pages) [] done number = absurd done
  ahead-done (task ∷ tasks) (said ∷ dialogs) (page ∷ pages) (session ∷ sessions) done number =
      grind (
        arith,
        done.0,
        done.1,
        here-first task.0 number task.1 tasks,
        here-first page.0 number page.1 pages,
        here-first session.0 number session.1 sessions,
        there-first task.0 number task.1 tasks,
        there-first page.0 number page.1 pages,
        there-first session.0 number session.1 sessions,
        first,
        ahead-done tasks dialogs pages sessions done.3 number,
      )
    where
      first : IsAhead table whole task.0 (new_session task.0 task.0) session.1 task.1 (answers_of said) page.1
      first = record {
        rest = done.2.rest;
        printed = done.2.printed;
        all = done.2.all;
        ended = λ w. led-end (done.2.leads w);
      }

  -- sessions that are passed over
  passed : (number : ℕ) (first : Session) (sessions : SessionMap) (tasks : Tasks) → AreAbove number tasks
      → by_number (session_or_new ((number, first) ∷ sessions)) tasks ≡ by_number (session_or_new sessions) tasks
  passed number first sessions [] above = refl
  passed number first sessions (task ∷ tasks) above =
      grind (arith, there-first number task.0 first sessions, passed number first sessions tasks)

  -- the sessions that are left are those of the tasks' numbers
  pub sessions-done : (tasks : Tasks) (dialogs : List Dialog) (pages : PageMap) (sessions : SessionMap)
      → AreDone table whole tasks dialogs pages sessions → Ascend tasks
      → by_number (session_or_new sessions) tasks ≡ sessions
  sessions-done [] [] [] [] done ascend = refl
  sessions-done [] [] [] (session ∷ sessions) done ascend = absurd done
  sessions-done [] [] (page ∷ pages) sessions done ascend = absurd done
  sessions-done [] (said ∷ dialogs) pages sessions done ascend = absurd done
  sessions-done (task ∷ tasks) [] pages sessions done ascend = absurd done
  sessions-done (task ∷ tasks) (said ∷ dialogs) [] sessions done ascend = absurd done
  sessions-done (task ∷ tasks) (said ∷ dialogs) (page ∷ pages) [] done ascend = absurd done
  sessions-done (task ∷ tasks) (said ∷ dialogs) (page ∷ pages) (session ∷ sessions) done ascend =
      grind (
        arith,
        done.1,
        here-first session.0 task.0 session.1 sessions,
        passed session.0 session.1 sessions tasks,
        ascend.0,
        sessions-done tasks dialogs pages sessions done.3 ascend.1,
      )
