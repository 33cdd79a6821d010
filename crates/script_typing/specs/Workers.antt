-- What workers leave, each of which types the own lines of a session.
use Rattle.std.specs.Prelude.{◌≡◌, ⊤, ℕ, ◌+◌, Bool, true, false, ◌&&◌, Result, Ok, Err, None, Some}
use Rattle.std.specs.Prelude.{List, [], ◌∷◌, ◌++◌, map, OnOk, OnErr, IfOk}
use Rattle.std.specs.BTreeMap.{insert_entry}
use Rattle.std.specs.List.{list_all}
use Rattle.std.specs.Ordering.{nat_cmp}
use Rattle.romaji_rules.specs.declared.rule.Rule.{Rule}
use Rattle.skk_calls.specs.declared.answer.Answer.{Answer}
use Rattle.skk_calls.specs.declared.caller.Caller.{Ghosts as CallerGhosts}
use Rattle.skk_calls.specs.declared.caller.Kept.{Ghosts as KeptGhosts}
use Rattle.skk_calls.specs.Interactions.{ends, asked, Dialog, Leads, calls_of, answers_of}
use Rattle.skk_text.specs.declared.memory.Memory.{Memory}
use Rattle.key_scripts.specs.declared.line.Line.{Line}
use Rattle.key_scripts.specs.declared.line.Line.TheVariants.{Keys, Opening}
use Rattle.session_machine.specs.Said.{Says, spoken, after as session_after}
use Rattle.session_machine.specs.Session.{Session, new_session}
use Rattle.script_typing.specs.declared.typed.Typed.{Typed}
use Rattle.script_typing.specs.declared.worker.Worker.{Worker}
use Rattle.script_typing.specs.Pages.{PageList, PageMap, woven_pages, text_of_pages}
use Rattle.script_typing.specs.Callers.{CountFrom, HaveAsked}
use Rattle.script_typing.specs.Lines.{line_played}
use Rattle.script_typing.specs.Printing.{output_line}
use Rattle.script_typing.specs.Sessions.{SessionMap}
use Rattle.script_typing.specs.Typed.{closing_lines}
use Rattle.script_typing.specs.Woven.{Tasks, Given, own_typing, task_typing, taken, woven, numbers_printed}

-- the page that a line prints: keys the output line of their session, and an opening line none
abbrev pub pages_printed : ℕ → Line → Session → PageList
pages_printed number (Keys named ks) session = output_line number session ∷ []
pages_printed number (Opening named typist book) session = []

-- the output lines of a session's own lines that are taken whole, where it takes its answers from the head of these
abbrev pub own_pages : List Rule → ℕ → Session → List Line → List Answer → PageList
own_pages rules number session [] answers = []
own_pages rules number session (line ∷ lines) answers =
    elim (taken (line_played rules session line) answers) [
      | None ↦ []
      | Some (after, rest) ↦ pages_printed number line after ++ own_pages rules number after lines rest
    ]

-- Workers

-- a worker that has typed nothing
abbrev pub IsNew : {C : Type 0} → ℕ → List Line → Worker C → Type 0
IsNew number lines worker =
    (worker.number ≡ number) × (worker.lines ≡ lines) × (worker.session ≡ new_session number number)
    × (worker.pages ≡ []) × (worker.ended ≡ Ok tt)

-- what a step of a worker leaves alone
abbrev pub StaysOwn : {C : Type 0} → CallerGhosts C → Worker C → Worker C → Type 0
StaysOwn callers before after =
    (after.number ≡ before.number) × (callers.number after.caller ≡ callers.number before.caller)

-- what the typing of a line makes of a worker: the line was played in its session, as far as memory was there, and
-- where that was typed whole its page is there, if it prints one
pub record TypesOwnLine {C : Type 0} (callers : CallerGhosts C) (rules : List Rule) (line : Line)
    (ended : Result (Unit {0}) Memory) (before after : Worker C) : Type 0 where
  pub number : after.number ≡ before.number
  pub says : Says (line_played rules before.session line) (session_after ended after.session)
      (spoken callers.number callers.said before.caller) (spoken callers.number callers.said after.caller)
  pub paged : OnOk ended (after.pages ≡ before.pages ++ pages_printed before.number line after.session)
  pub unpaged : OnErr ended (after.pages ≡ before.pages)

-- what the typing of a session's own lines makes of a worker: its caller has said what the lines ask, and pages were
-- printed of those that are taken whole; where it was not out of memory the session is the one behind all lines, and
-- all was said and printed
pub record LeavesOwnLines {C : Type 0} (callers : CallerGhosts C) (rules : List Rule) (lines : List Line)
    (ended : Result (Unit {0}) Memory) (before after : Worker C) : Type 0 where
  pub dialog : Dialog
  pub new : PageList
  pub rest : PageList
  pub grows : callers.said after.caller ≡ callers.said before.caller ++ dialog
  pub asks : asked (own_typing rules before.session lines) (answers_of dialog) ≡ calls_of dialog
  pub paged : after.pages ≡ before.pages ++ new
  pub printed : own_pages rules before.number before.session lines (answers_of dialog) ≡ new ++ rest
  pub whole : OnOk ended (rest ≡ [])
  pub leads : OnOk ended (Leads (own_typing rules before.session lines) dialog [] (ends after.session))

-- what a run of a worker leaves
pub record HasRun {C : Type 0} (callers : CallerGhosts C) (rules : List Rule) (before after : Worker C) : Type 0 where
  pub stays : StaysOwn callers before after
  pub leaves : LeavesOwnLines callers rules before.lines after.ended before after

-- new workers have the first of some tasks, each with a caller that has said nothing, and the numbers of these callers
-- count on from the first
abbrev pub AreHired : {C : Type 0} → CallerGhosts C → ℕ → Tasks → List (Worker C) → Type 0
AreHired callers first tasks [] = ⊤
AreHired callers first [] (worker ∷ workers) = ⊥
AreHired callers first (task ∷ tasks) (worker ∷ workers) =
    IsNew task.0 task.1 worker × (callers.number worker.caller ≡ first) × (callers.said worker.caller ≡ [])
    × AreHired callers (first + 1) tasks workers

-- slips are what is left of the callers of workers, in their order
abbrev pub AreRested : {C S : Type 0} → CallerGhosts C → KeptGhosts S → List (Worker C) → List S
    → Type 0
AreRested callers kept [] [] = ⊤
AreRested callers kept (worker ∷ workers) (slip ∷ slips) =
    (kept.number slip ≡ callers.number worker.caller) × (kept.said slip ≡ callers.said worker.caller)
    × AreRested callers kept workers slips
AreRested callers kept workers slips = ⊥

-- What is left of tasks

-- what is left of a task of which a caller has said a dialog: pages were printed of the lines that are taken whole, and
-- where nothing was out of memory of all lines, and the session is the one behind them
pub record IsDone (rules : List Rule) (task : ℕ × List Line) (said : Dialog) (pages : PageList) (end : Session)
    (whole : Bool) : Type 0 where
  pub rest : PageList
  pub asks : asked (task_typing rules task) (answers_of said) ≡ calls_of said
  pub printed : own_pages rules task.0 (new_session task.0 task.0) task.1 (answers_of said) ≡ pages ++ rest
  pub all : whole ≡ true → rest ≡ []
  pub leads : whole ≡ true → Leads (task_typing rules task) said [] (ends end)

-- a result is no want of memory
abbrev pub is_whole : Result (Unit {0}) Memory → Bool
is_whole (Ok done) = true
is_whole (Err memory) = false

-- what is left of workers: their pages and their sessions, by their numbers, and whether none was out of memory
pub record IsLeftOf {C : Type 0} (workers : List (Worker C)) (typed : Typed) : Type 0 where
  pub pages : typed.pages.entries ≡ map (λ worker. (worker.number, worker.pages)) workers
  pub sessions : typed.sessions.entries ≡ map (λ worker. (worker.number, worker.session)) workers
  pub whole : typed.whole ≡ list_all (λ worker. is_whole worker.ended) workers

-- what one worker more leaves
pub record AddsTo {C : Type 0} (worker : Worker C) (before after : Typed) : Type 0 where
  pub pages : after.pages.entries ≡ insert_entry nat_cmp before.pages.entries worker.number worker.pages
  pub sessions : after.sessions.entries ≡ insert_entry nat_cmp before.sessions.entries worker.number worker.session
  pub whole : after.whole ≡ before.whole && is_whole worker.ended

-- what is left of tasks, in their order: of each what its caller has said, its pages and its session
abbrev pub AreDone : List Rule → Bool → Tasks → List Dialog → PageMap → SessionMap → Type 0
AreDone rules whole [] [] [] [] = ⊤
AreDone rules whole (task ∷ tasks) (said ∷ dialogs) (pages ∷ more) (session ∷ sessions) =
    (pages.0 ≡ task.0) × (session.0 ≡ task.0) × IsDone rules task said pages.1 session.1 whole
    × AreDone rules whole tasks dialogs more sessions
AreDone rules whole tasks dialogs pages sessions = ⊥

-- what the work on tasks leaves, by callers of which these are the numbers and what each has said: the numbers count on
-- from the first, each has asked what its task asks, and where memory was not out behind that, each task has a caller,
-- and its pages and its session are left
pub record WorkedBy (rules : List Rule) (tasks : Tasks) (first : ℕ) (typed : Result Typed Memory)
    (numbers : List ℕ) (dialogs : List Dialog) : Type 0 where
  pub counted : CountFrom first numbers
  pub asks : HaveAsked rules tasks dialogs
  pub done : IfOk typed (λ t. AreDone rules t.whole tasks dialogs t.pages.entries t.sessions.entries)

-- pages in the order of the script stand in front of what is woven of its lines, and where all is whole there is
-- nothing behind them but the closing lines of the sessions
pub record AreWoven (rules : List Rule) (lines : List Line) (given : Given) (whole : Bool) (pages : PageMap)
    (sessions : SessionMap) : Type 0 where
  pub rest : List ℕ
  pub is : woven rules [] given lines ≡ text_of_pages (woven_pages (numbers_printed lines) pages) ++ rest
  pub closed : whole ≡ true → rest ≡ closing_lines sessions
