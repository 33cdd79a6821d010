-- What a run of `type` leaves that gives each session a caller of its own.
use Rattle.std.specs.Prelude.{◌≡◌, ◌≤◌, ℕ, true, if◌then◌else◌, List, [], ◌++◌, length, OnOk, encode_utf8_all}
use Rattle.std.specs.List.{list_all}
use Rattle.std.specs.Io.KnownBytes.{Appends}
use Rattle.skk_outside.specs.Moved.{MovedSink}
use Rattle.romaji_rules.specs.declared.rule.Rule.{Rule}
use Rattle.skk_calls.specs.declared.chronicle.Noted.{Noted}
use Rattle.skk_calls.specs.Histories.{Opening}
use Rattle.skk_calls.specs.Openings.{IsLegalOver, said_in}
use Rattle.key_scripts.specs.Script.{OpenFirst, opens_well}
use Rattle.key_scripts.specs.declared.line.Line.{Line}
use Rattle.script_typing.specs.declared.typed.Typed.{Typed}
use Rattle.script_typing.specs.Callers.{AskFrom, EndFrom}
use Rattle.script_typing.specs.Pages.{text_of_pages, woven_pages}
use Rattle.script_typing.specs.Typed.{closing_lines, typed_alone}
use Rattle.script_typing.specs.Woven.{Tasks, tasks_of, numbers_printed, answers_by, woven, are_apart}
use Rattle.caller_work.specs.Disks.{DiskNow}
use Rattle.skk_top.specs.LinesWork.{LeavesWork}
use Rattle.run_endings.specs.Page.{LeavesPrinted}
use Rattle.run_endings.specs.Status.{Ended}
use Rattle.run_endings.specs.declared.finish.Run.{Run}

-- tasks, and numbers of sessions, are those of the lines of a script
pub record AreCutOf (lines : List Line) (tasks : Tasks) (order : List ℕ) : Type 0 where
  pub tasks_is : tasks ≡ tasks_of lines
  pub order_is : order ≡ numbers_printed lines
  pub well : list_all opens_well lines ≡ true
  pub first : OpenFirst lines

-- a chronicle is legal over its opening; the caller of each session's place, ascending by the sessions' numbers, has
-- said what the session's own lines ask; and no entry has another number
pub record KeepsCallers (opening : Opening) (rules : List Rule) (tasks : Tasks) (chronicle : List Noted) : Type 0 where
  pub legal : IsLegalOver opening chronicle
  pub asks : AskFrom rules (said_in chronicle) 0 tasks
  pub strangers : (number : ℕ) → length tasks ≤ number → said_in chronicle number ≡ []

-- what the typing of lines leaves where each session has a caller of its own: each asks what its session's lines ask,
-- what is woven of their answers was printed, and where the typists are apart in the state opened that is also what is
-- printed where the dictionary of one thread answers
abbrev pub WeavesLines : {D : Type 0} → Opening → List Rule → List Line → Run D → MovedSink → DiskNow → Type 0
WeavesLines opening rules lines run out disk =
    let said = said_in run.chronicle in
    LeavesWork opening (KeepsCallers opening rules (tasks_of lines) run.chronicle)
    (EndFrom rules said 0 (tasks_of lines)) (woven rules [] (answers_by said (tasks_of lines)) lines)
    (are_apart opening.state lines ≡ true → Appends out.written out.written' (typed_alone opening rules lines))
    run out disk

-- What workers left, printed

-- the text of what workers left: their pages in the order of the script, and where all is whole the closing lines
abbrev pub text_left : List ℕ → Typed → List ℕ
text_left order typed =
    text_of_pages (woven_pages order typed.pages.entries)
    ++ (if typed.whole then closing_lines typed.sessions.entries else [])

-- what the printing of it leaves in a sink, by how it ends: where it is done all lines were typed
pub record LeavesPages (order : List ℕ) (typed : Typed) (ended : Ended) (out : MovedSink) : Type 0 where
  pub all : OnOk ended (typed.whole ≡ true)
  pub prints : LeavesPrinted (encode_utf8_all (text_left order typed)) ended out
