-- The pages of workers in the order of the script, for the tasks of its lines.
use Rattle.std.proofs.Common.{◌∙◌, ap, sym, subst, refl, ℕ, Bool, List, []}
use Rattle.romaji_rules.specs.declared.rule.Rule.{Rule}
use Rattle.skk_calls.specs.Interactions.{Dialog, answers_of}
use Rattle.key_scripts.specs.declared.line.Line.{Line}
use Rattle.session_machine.specs.Session.{Session, new_session}
use Rattle.script_typing.specs.Callers.{AreCallers}
use Rattle.script_typing.specs.Pages.{PageMap, pages_at}
use Rattle.script_typing.specs.Sessions.{SessionMap, session_or_new}
use Rattle.script_typing.specs.Typed.{closing_lines}
use Rattle.script_typing.specs.Woven.{lines_at, tasks_of, answers_by}
use Rattle.script_typing.specs.Workers.{AreDone, AreWoven}
use Rattle.script_typing.proofs.Callers.{dialogs-done, said-of}
use Rattle.script_typing.proofs.Tasks.{ascend-tasks, own-lines_of, ahead-done, sessions-done}
use Rattle.script_typing.proofs.Weaving.{IsAhead, AreAhead, woven-ahead}

module _ (table : List Rule) (lines : List Line) (said : ℕ → Dialog) (numbers : List ℕ) (dialogs : List Dialog)
    (whole : Bool) (pages : PageMap) (sessions : SessionMap) (callers : AreCallers said numbers dialogs)
    (done : AreDone table whole (tasks_of lines) dialogs pages sessions) where
  abbrev ended : ℕ → Session
  ended = session_or_new sessions

  -- what is known of each session in front of the lines
  ahead : AreAhead table whole ended [] (answers_by said (tasks_of lines)) lines pages
  ahead number =
      subst (λ (ls : List Line). IsAhead table whole number (new_session number number) (ended number) ls
      (answers_by said (tasks_of lines) number) (pages_at pages number)) (sym (own-lines_of lines number))
      (subst (λ (d : Dialog). IsAhead table whole number (new_session number number) (ended number)
      (lines_at (tasks_of lines) number) (answers_of d) (pages_at pages number))
      (said-of said (tasks_of lines) numbers dialogs callers
      (dialogs-done table said whole (tasks_of lines) dialogs pages sessions done) number)
      (ahead-done table whole (tasks_of lines) dialogs pages sessions done number))

  -- the pages that are left of the tasks of a script are woven
  pub pages-woven : AreWoven table lines (answers_by said (tasks_of lines)) whole pages sessions
  pages-woven =
      let woven = woven-ahead table whole ended lines [] [] (answers_by said (tasks_of lines)) pages tt refl ahead in
      record {
        rest = woven.rest;
        is = woven.is;
        closed = λ all.
            woven.closed all
            ∙ ap closing_lines (sessions-done table whole (tasks_of lines) dialogs pages sessions done
            (ascend-tasks [] lines tt));
      }
