-- What a run of `load` leaves.
use Rattle.std.specs.Prelude.{◌≡◌, ◌⊎◌, ◌*◌, ℕ, true, min, sum_by, List, [], ◌∷◌, ◌++◌, IsSome, codes}
use Rattle.std.specs.Prelude.{encode_utf8_all}
use Rattle.std.specs.Fmt.{decimal}
use Rattle.std.specs.Io.KnownBytes.{Appends}
use Rattle.skk_text.specs.Counts.{last_count}
use Rattle.skk_text.specs.Lines.{line_feed}
use Rattle.skk_text.specs.Text.{byte_len}
use Rattle.skk_outside.specs.Moved.{MovedSink}
use Rattle.romaji_rules.specs.Standard.{standard}
use Rattle.skk_calls.specs.Chronicles.{history_of}
use Rattle.skk_calls.specs.Histories.{Opening}
use Rattle.skk_calls.specs.Interactions.{end_of, answers_of}
use Rattle.skk_calls.specs.Openings.{said_in}
use Rattle.skk_calls.specs.Rows.{Row}
use Rattle.skk_calls.specs.States.{State, empty_state}
use Rattle.skk_calls.specs.Tallies.{Tally, tally_of}
use Rattle.key_scripts.specs.declared.line.Line.{Line}
use Rattle.session_machine.specs.Session.{text_of}
use Rattle.load_input.specs.Dictionary.{dictionary_rows}
use Rattle.load_input.specs.Lines.{lines_drawn}
use Rattle.script_typing.specs.Callers.{EndFrom}
use Rattle.script_typing.specs.Playing.{playing, sessions_behind, sessions_from, end_alone, history_alone}
use Rattle.script_typing.specs.Sessions.{SessionMap}
use Rattle.script_typing.specs.Woven.{are_apart, tasks_of}
use Rattle.command_line.specs.declared.command.LoadOptions.{LoadOptions}
use Rattle.caller_work.specs.Disks.{DiskNow}
use Rattle.skk_top.specs.Disks.{MovedDisk, RefusesLearned, IsOpening}
use Rattle.run_endings.specs.Finishes.{EndsUnbegun}
use Rattle.skk_top.specs.LinesWork.{LeavesWork}
use Rattle.skk_top.specs.TypeCommand.{KeepsChronicle}
use Rattle.skk_top.specs.WeaveCommand.{KeepsCallers}
use Rattle.run_endings.specs.declared.fault.RunFault.TheVariants.{Memory}
use Rattle.run_endings.specs.declared.finish.Run.{Run}

-- The summary

-- the bytes of the texts of sessions, as far as a number can tell
abbrev pub text_bytes : SessionMap → ℕ
text_bytes sessions = min (sum_by (λ entry. byte_len (text_of entry.1)) sessions) last_count

-- the line of a word and a number
abbrev pub number_line : List ℕ → ℕ → List ℕ
number_line word number = word ++ decimal number ++ line_feed ∷ []

-- the five lines of a summary: the lines, the words that were learnt, the learnings that were taken back, the rows of
-- all books, and the bytes of all texts
abbrev pub summary : ℕ → ℕ → ℕ → ℕ → ℕ → List ℕ
summary lines learned restored rows bytes =
    number_line (codes "lines ") lines
    ++ (number_line (codes "learned ") learned
    ++ (number_line (codes "restored ") restored
    ++ (number_line (codes "rows ") rows
    ++ number_line (codes "bytes ") bytes)))

-- the summary of lines that were played, by what their calls came to and the sessions behind them
abbrev pub summed : LoadOptions → Tally → SessionMap → List ℕ
summed options tally sessions =
    summary (options.sessions * options.lines) tally.learned tally.restored tally.rows (text_bytes sessions)

-- What is loaded

-- the lines of a load
abbrev pub load_lines : LoadOptions → List Line
load_lines options = lines_drawn options.seed options.sessions options.lines

-- the files of a load: its one dictionary
abbrev pub load_files : List (List Row)
load_files = dictionary_rows ∷ []

-- the bytes printed for a load where the dictionary of one thread answers from a state on
abbrev pub loaded_from : List (List Row) → State → LoadOptions → List ℕ
loaded_from files state options =
    let lines = playing standard [] (load_lines options) in
    encode_utf8_all (summed options (tally_of state (history_alone files state lines)) (end_alone files state lines))

-- the bytes printed for a load where nothing was learnt before
abbrev pub loaded : LoadOptions → List ℕ
loaded options = loaded_from load_files empty_state options

-- what one caller leaves that plays the lines: it asks what they ask, the summary of that was printed, and that is also
-- what is printed where the dictionary of one thread answers
abbrev pub LoadsLines : {D : Type 0} → LoadOptions → Opening → Run D → MovedSink → DiskNow → Type 0
LoadsLines options opening run out disk =
    let answers = answers_of (said_in run.chronicle 0) in
    LeavesWork opening (KeepsChronicle opening (playing standard [] (load_lines options)) run.chronicle)
    (IsSome (end_of (playing standard [] (load_lines options)) answers))
    (summed options (tally_of opening.state (history_of run.chronicle))
    (sessions_behind standard (load_lines options) answers))
    (Appends out.written out.written' (loaded_from opening.files opening.state options)) run out disk

-- what callers leave of which each plays the lines of one session: as above, but what the dictionary of one thread
-- comes to is printed where the typists are apart in the state opened, as they are where no typist has a list of books
abbrev pub LoadsTasks : {D : Type 0} → LoadOptions → Opening → Run D → MovedSink → DiskNow → Type 0
LoadsTasks options opening run out disk =
    let said = said_in run.chronicle in
    LeavesWork opening (KeepsCallers opening standard (tasks_of (load_lines options)) run.chronicle)
    (EndFrom standard said 0 (tasks_of (load_lines options)))
    (summed options (tally_of opening.state (history_of run.chronicle))
    (sessions_from standard said 0 (tasks_of (load_lines options))))
    (are_apart opening.state (load_lines options) ≡ true
    → Appends out.written out.written' (loaded_from opening.files opening.state options)) run out disk

-- what the loading leaves in some manner, over an opening
abbrev pub Loading : Type 0 → Type 1
Loading D = Opening → Run D → MovedSink → DiskNow → Type 0

-- the learned file was opened over the dictionary of a load, and there was no memory to begin, or the lines were played
pub record LoadsOpened {D : Type 0} (Lines : Loading D) (run : Run D) (out : MovedSink) (disk : MovedDisk) : Type 0
  where
    pub opening : Opening
    pub opened : IsOpening disk load_files 268435456 opening
    pub played : EndsUnbegun (λ fault. fault ≡ Memory) run out ⊎ Lines opening run out disk.after

-- what a run of `load` leaves: the learned file is refused, or it was opened
abbrev pub LeavesLoaded : {D : Type 0} → Loading D → Run D → MovedSink → MovedDisk → Type 0
LeavesLoaded Lines run out disk = EndsUnbegun (RefusesLearned disk) run out ⊎ LoadsOpened Lines run out disk
