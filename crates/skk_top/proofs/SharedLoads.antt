-- What callers leave of which each plays the lines of one session of a load.
use Rattle.std.proofs.Common.{◌≡◌, ◌≤◌, ◌+◌, ◌∙◌, ap, ap₂, sym, subst, refl, ℕ, Bool, true, false, unwrap_or}
use Rattle.std.proofs.Common.{Option, Some}
use Rattle.std.proofs.Common.{Result, Ok, Err, IfOk, OnOk, OnErr, List, [], ◌∷◌, length, map, encode_utf8_all, arith}
use Rattle.std.proofs.lemmas.List.{length-map}
use Rattle.std.specs.Io.KnownBytes.{Appends, Keeps}
use Rattle.skk_outside.specs.Moved.{MovedSink}
use Rattle.romaji_rules.specs.Standard.{standard}
use Rattle.romaji_rules.specs.declared.rule.Rule.{Rule}
use Rattle.skk_text.specs.declared.memory.Memory.{Memory as no_memory}
use Rattle.skk_calls.specs.declared.chronicle.Noted.{Noted}
use Rattle.skk_calls.specs.Chronicles.{history_of}
use Rattle.skk_calls.specs.Histories.{Opening}
use Rattle.skk_calls.specs.InteractionLaws.{led-end}
use Rattle.skk_calls.specs.Interactions.{Dialog, answers_of, end_of}
use Rattle.skk_calls.specs.Openings.{IsLegalOver, said_in, are_served}
use Rattle.skk_calls.specs.Tallies.{Tally, tally_of}
use Rattle.session_machine.specs.Session.{Session, new_session}
use Rattle.script_typing.specs.Callers.{AreCallers, AskFrom, CountFrom, EndFrom, LeadFrom}
use Rattle.script_typing.specs.Pages.{PageMap}
use Rattle.script_typing.specs.Playing.{playing, sessions_from, end_alone, history_alone}
use Rattle.script_typing.specs.Sessions.{SessionMap}
use Rattle.script_typing.specs.Woven.{Tasks, are_apart, task_typing, tasks_of}
use Rattle.script_typing.specs.Workers.{AreDone, WorkedBy}
use Rattle.script_typing.specs.declared.typed.Typed.{Typed}
use Rattle.command_line.specs.declared.command.LoadOptions.{LoadOptions}
use Rattle.caller_work.specs.Disks.{DiskNow, KeepsDisk}
use Rattle.skk_top.specs.LoadCommand.{load_lines, loaded_from, summed, LoadsTasks}
use Rattle.run_endings.specs.Page.{LeavesPrinted}
use Rattle.run_endings.specs.Status.{Ended, ended_by}
use Rattle.run_endings.specs.declared.fault.RunFault.TheVariants.{Memory}
use Rattle.skk_top.specs.WeaveCommand.{KeepsCallers}
use Rattle.skk_top.proofs.LinesWork.{always, work-closed, work-lost}
use Rattle.skk_top.proofs.Weaves.{asked-few}

-- the sessions that are left of tasks are those that what their callers have said leads to
sessions-done : (table : List Rule) (said : ℕ → Dialog) (place : ℕ) (tasks : Tasks) (numbers : List ℕ) (pages : PageMap)
    (sessions : SessionMap) → CountFrom place numbers → AreDone table true tasks (map said numbers) pages sessions
    → sessions_from table said place tasks ≡ sessions
sessions-done table said place [] [] [] [] counted done = refl
sessions-done table said place (task ∷ tasks) (number ∷ numbers) (page ∷ pages) (session ∷ sessions) counted done =
    let there : end_of (task_typing table task) (answers_of (said place)) ≡ Some session.1 =
    ap (λ n. end_of (task_typing table task) (answers_of (said n))) (sym counted.0) ∙ led-end (done.2.leads refl) in
    ap₂ (λ (entry : ℕ × Session) (rest : SessionMap). entry ∷ rest)
    (ap₂ (λ (n : ℕ) (s : Session). (n, s)) (sym done.1)
    (ap (λ (o : Option Session). unwrap_or o (new_session task.0 task.0)) there))
    (sessions-done table said (place + 1) tasks numbers pages sessions counted.1 done.3)
sessions-done table said place tasks numbers pages sessions counted done = absurd done

module _ {D : Type 0} (options : LoadOptions) (opening : Opening) (chronicle : List Noted) (left : D) (tally : Tally)
    (out : MovedSink) (disk : DiskNow) (numbers : List ℕ) (dialogs : List Dialog)
    (legal : IsLegalOver opening chronicle)
    (keeps : KeepsDisk opening chronicle disk) (counts : tally ≡ tally_of opening.state (history_of chronicle))
    (callers : AreCallers (said_in chronicle) numbers dialogs) where
  abbrev tasks : Tasks
  tasks = tasks_of (load_lines options)

  abbrev said : ℕ → Dialog
  said = said_in chronicle

  abbrev text : SessionMap → List ℕ
  text sessions = summed options (tally_of opening.state (history_of chronicle)) sessions

  abbrev Left : Ended → Type 0
  Left ended =
      LoadsTasks options opening (record { ended = ended_by ended tally; chronicle = chronicle; disk = left }) out disk

  -- each of the callers has said all that its task asks, and none was refused: what that comes to is what it comes to
  -- where the dictionary of one thread answers one caller
  abbrev PlaysAlone : Type 0
  PlaysAlone =
      let lines = playing standard [] (load_lines options) in
      ((number : ℕ) → length tasks ≤ number → said number ≡ []) → are_served chronicle ≡ true
      → LeadFrom standard said 0 tasks → are_apart opening.state (load_lines options) ≡ true
      → (sessions_from standard said 0 tasks ≡ end_alone opening.files opening.state lines)
      × (tally_of opening.state (history_of chronicle)
      ≡ tally_of opening.state (history_alone opening.files opening.state lines))

  module _ (asks : AskFrom standard said 0 tasks) (strangers : (number : ℕ) → length tasks ≤ number → said number ≡ [])
      (plays_alone : PlaysAlone) where
    kept : KeepsCallers opening standard tasks chronicle
    kept = record { legal = legal; asks = asks; strangers = strangers }

    -- what was printed is also what is printed where the dictionary of one thread answers
    alone : LeadFrom standard said 0 tasks → (ended : Ended)
        → LeavesPrinted (encode_utf8_all (text (sessions_from standard said 0 tasks))) ended out
        → OnOk ended (are_served chronicle ≡ true → are_apart opening.state (load_lines options) ≡ true
        → Appends out.written out.written' (loaded_from opening.files opening.state options))
    alone leads (Ok done) prints = λ no_refusal apart.
        let both = plays_alone strangers no_refusal leads apart in
        subst (Appends out.written out.written')
        (ap₂ (λ (t : Tally) (s : SessionMap). encode_utf8_all (summed options t s)) both.1 both.0) prints.whole
    alone leads (Err fault) prints = tt

    -- tasks that were done whole, of which the summary was printed
    shared-whole : (ended : Ended) (pages : PageMap) (sessions : SessionMap)
        → AreDone standard true tasks dialogs pages sessions
        → LeadFrom standard said 0 tasks × EndFrom standard said 0 tasks
        → LeavesPrinted (encode_utf8_all (summed options tally sessions)) ended out → Left ended
    shared-whole ended pages sessions done all prints =
        let done_so : sessions_from standard said 0 tasks ≡ sessions =
        sessions-done standard said 0 tasks numbers pages sessions callers.counted
        (subst (λ (ds : List Dialog). AreDone standard true tasks ds pages sessions) callers.said_by done) in
        let printed = subst (λ (t : Tally). LeavesPrinted (encode_utf8_all (summed options t
        (sessions_from standard said 0 tasks))) ended out) counts
        (subst (λ (s : SessionMap). LeavesPrinted (encode_utf8_all (summed options tally s)) ended out) (sym done_so)
        prints) in
        work-closed opening chronicle left tally out disk keeps counts (KeepsCallers opening standard tasks chronicle)
        (EndFrom standard said 0 tasks) (text (sessions_from standard said 0 tasks))
        (are_apart opening.state (load_lines options) ≡ true
        → Appends out.written out.written' (loaded_from opening.files opening.state options)) ended kept
        (always ended all.1) printed (alone all.0 ended printed)

    -- tasks for which memory was out, of which nothing was printed
    shared-cut : (ended : Ended) → ended ≡ Err Memory → Keeps out.written out.written' → out.faults ≤ out.faults'
        → Left ended
    shared-cut ended =
        work-lost opening chronicle left tally out disk keeps counts (KeepsCallers opening standard tasks chronicle)
        (EndFrom standard said 0 tasks) (text (sessions_from standard said 0 tasks))
        (are_apart opening.state (load_lines options) ≡ true
        → Appends out.written out.written' (loaded_from opening.files opening.state options)) ended kept

    -- by how the work ended
    shared-by : (typed : Result Typed no_memory) (ended : Ended)
        → IfOk typed (λ t. AreDone standard t.whole tasks dialogs t.pages.entries t.sessions.entries)
        → IfOk typed (λ t. t.whole ≡ true
        → LeavesPrinted (encode_utf8_all (summed options tally t.sessions.entries)) ended out)
        → IfOk typed (λ t. t.whole ≡ false → (ended ≡ Err Memory) × Keeps out.written out.written')
        → OnErr typed ((ended ≡ Err Memory) × Keeps out.written out.written') → out.faults ≤ out.faults'
        → ((pages : PageMap) (sessions : SessionMap) → AreDone standard true tasks dialogs pages sessions
        → LeadFrom standard said 0 tasks × EndFrom standard said 0 tasks)
        → Left ended
    shared-by (Err lost) ended done whole cut none counted end_law = shared-cut ended none.0 none.1 counted
    shared-by (Ok typed) ended done whole cut none counted end_law = by typed.whole refl done
      where
        by : (b : Bool) → typed.whole ≡ b
            → AreDone standard b tasks dialogs typed.pages.entries typed.sessions.entries → Left ended
        by true is all =
            shared-whole ended typed.pages.entries typed.sessions.entries all
            (end_law typed.pages.entries typed.sessions.entries all) (whole is)
        by false is all = let lost = cut is in shared-cut ended lost.0 lost.1 counted

  pub shares-closed : (typed : Result Typed no_memory) (ended : Ended)
      → WorkedBy standard tasks 0 typed numbers dialogs → AskFrom standard said 0 tasks
      → IfOk typed (λ t. t.whole ≡ true
      → LeavesPrinted (encode_utf8_all (summed options tally t.sessions.entries)) ended out)
      → IfOk typed (λ t. t.whole ≡ false → (ended ≡ Err Memory) × Keeps out.written out.written')
      → OnErr typed ((ended ≡ Err Memory) × Keeps out.written out.written') → out.faults ≤ out.faults'
      → ((pages : PageMap) (sessions : SessionMap) → AreDone standard true tasks dialogs pages sessions
      → LeadFrom standard said 0 tasks × EndFrom standard said 0 tasks)
      → PlaysAlone → Left ended
  shares-closed typed ended worked asks whole cut none counted end_law plays_alone =
      shared-by asks strangers plays_alone typed ended worked.done whole cut none counted end_law
    where
      strangers : (number : ℕ) → length tasks ≤ number → said number ≡ []
      strangers number behind =
          callers.strangers number (omega (
            arith,
            behind,
            asked-few standard tasks dialogs worked.asks,
            ap length callers.said_by,
            length-map numbers said,
          ))
