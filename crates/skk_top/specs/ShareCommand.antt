-- What a run of `share` leaves.
use Rattle.std.specs.Prelude.{◌≡◌, ◌⊎◌, ℕ, Some, List, [], ◌∷◌, ◌++◌, codes, encode_utf8_all}
use Rattle.std.specs.Fmt.{decimal}
use Rattle.std.specs.Io.KnownBytes.{Appends}
use Rattle.skk_outside.specs.Moved.{MovedSink}
use Rattle.skk_text.specs.Lines.{line_feed}
use Rattle.skk_calls.specs.declared.answer.Answer.{Answer}
use Rattle.skk_calls.specs.declared.answer.Answer.TheVariants.{Done, Refused}
use Rattle.skk_calls.specs.declared.call.Call.TheVariants.{Share}
use Rattle.skk_calls.specs.declared.chronicle.Noted.{Noted}
use Rattle.skk_calls.specs.Chronicles.{history_of}
use Rattle.skk_calls.specs.Histories.{Opening, state_after}
use Rattle.skk_calls.specs.Interactions.{Dialog, Interaction, ends, asks, prints, answers_of, calls_of, end_of, printed}
use Rattle.skk_calls.specs.Openings.{said_in}
use Rattle.skk_calls.specs.Runs.{Runs}
use Rattle.skk_calls.specs.States.{shared_books}
use Rattle.command_line.specs.Command.{limit_of}
use Rattle.command_line.specs.Words.{with_commas}
use Rattle.command_line.specs.declared.command.ShareOptions.{ShareOptions}
use Rattle.caller_work.specs.Disks.{DiskNow}
use Rattle.script_typing.specs.Lines.{at_if_done}
use Rattle.run_endings.specs.Finishes.{EndsUnbegun}
use Rattle.run_endings.specs.Page.{LeavesPrinted}
use Rattle.run_endings.specs.Status.{Ended}
use Rattle.run_endings.specs.declared.fault.RunFault.TheVariants.{Memory}
use Rattle.run_endings.specs.declared.finish.Run.{Run}
use Rattle.skk_top.specs.Disks.{MovedDisk, RefusesLearned, IsOpening}
use Rattle.skk_top.specs.LinesWork.{LeavesWork}
use Rattle.skk_top.specs.TypeCommand.{KeepsChronicle}

-- the line of a typist and of the books of the typist's list, in order
abbrev pub list_line : ℕ → List ℕ → List ℕ
list_line typist books =
    codes "typist " ++ decimal typist ++ codes " books " ++ with_commas books ++ line_feed ∷ []

-- what follows the answer to the one call: the line of the list, which stands then, or nothing where it was refused
abbrev pub told : ℕ → List ℕ → Answer → Interaction (Unit {0})
told typist books (Done reply) = prints (list_line typist books) (ends tt)
told typist books (Refused why) = ends tt

-- what giving a typist a list of books comes to: one call, and what follows its answer
abbrev pub sharing : ℕ → List ℕ → Interaction (Unit {0})
sharing typist books = asks (Share typist books) (told typist books)

-- what giving the list leaves in a sink and with a caller, by how it ends
abbrev pub SharesOut : ℕ → List ℕ → Ended → Dialog → Dialog → MovedSink → Type 0
SharesOut typist books ended said said' out =
    Runs (λ (all : Unit {0}). sharing typist books) (at_if_done ended (λ all. ends tt)) said said'
    (λ text. LeavesPrinted (encode_utf8_all text) ended out)

-- the chronicle has just the one call, and the line of the list that the typist has behind it was printed
pub record TellsList (typist : ℕ) (books : List ℕ) (opening : Opening) (chronicle : List Noted) (out : MovedSink)
    : Type 0 where
  pub called : calls_of (said_in chronicle 0) ≡ Share typist books ∷ []
  pub told : Appends out.written out.written' (encode_utf8_all
      (list_line typist (shared_books (state_after opening.state (history_of chronicle)) typist)))

-- what giving the list leaves where one caller makes the call: the chronicle has the one call at most, once, what
-- follows its answer was printed, and where the run is done the line of the list that stands then was
abbrev pub SharesList : {D : Type 0} → ShareOptions → Opening → Run D → MovedSink → DiskNow → Type 0
SharesList options opening run out disk =
    let asking = sharing options.typist options.books in
    let answers = answers_of (said_in run.chronicle 0) in
    LeavesWork opening (KeepsChronicle opening asking run.chronicle) (end_of asking answers ≡ Some tt)
    (printed asking answers) (TellsList options.typist options.books opening run.chronicle out) run out disk

-- the learned file was opened without dictionaries, and there was no memory to begin, or the list was given
pub record SharesOpened {D : Type 0} (options : ShareOptions) (run : Run D) (out : MovedSink) (disk : MovedDisk)
    : Type 0 where
  pub opening : Opening
  pub opened : IsOpening disk [] (limit_of options.limit) opening
  pub shared : EndsUnbegun (λ fault. fault ≡ Memory) run out ⊎ SharesList options opening run out disk.after

-- what a run of `share` leaves: the learned file is refused, and nothing was printed, or it was opened
abbrev pub LeavesShared : {D : Type 0} → ShareOptions → Run D → MovedSink → MovedDisk → Type 0
LeavesShared options run out disk = EndsUnbegun (RefusesLearned disk) run out ⊎ SharesOpened options run out disk
