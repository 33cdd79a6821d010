-- What a run of `check` leaves.
use Rattle.std.specs.Prelude.{◌⊎◌, ℕ, List, IfSome}
use Rattle.skk_outside.specs.Moved.{MovedShelf, MovedSink}
use Rattle.dict_format.specs.FileLines.{Lists}
use Rattle.dict_format.specs.declared.file.Listed.{Listed}
use Rattle.skk_top.specs.CheckedFiles.{checked}
use Rattle.skk_top.specs.Dictionaries.{HasDictionaryFlaw}
use Rattle.run_endings.specs.Finishes.{EndsUnbegun}
use Rattle.run_endings.specs.Page.{LeavesPrinted}
use Rattle.skk_top.specs.RunFiles.{RefusesFile}
use Rattle.run_endings.specs.declared.finish.Run.{Run}
use Rattle.run_endings.specs.declared.run_file.RunFile.TheVariants.{Dictionary}

-- what is listed in a file was printed: all of it, or a prefix
pub record PrintsListed {D : Type 0} (name : List ℕ) (run : Run D) (shelf : MovedShelf) (out : MovedSink) : Type 0 where
  pub listed : Listed
  pub lists : IfSome (shelf.file name) (λ bytes. Lists bytes listed)
  pub printed : LeavesPrinted (checked listed) run.ended out

-- what a run of `check` leaves for the file of a name: it is refused, as dictionary 1, and nothing was printed, or what
-- it lists was printed
abbrev pub LeavesChecked : {D : Type 0} → List ℕ → Run D → MovedShelf → MovedSink → Type 0
LeavesChecked name run shelf out =
    EndsUnbegun (RefusesFile (Dictionary 1) HasDictionaryFlaw (shelf.file name) shelf.faults shelf.faults') run out
    ⊎ PrintsListed name run shelf out
