-- What a run of `dump` leaves.
use Rattle.std.specs.Prelude.{◌⊎◌, [], encode_utf8_all}
use Rattle.dict_format.specs.PrintedFiles.{printed_file}
use Rattle.skk_calls.specs.Histories.{Opening}
use Rattle.skk_calls.specs.States.{rows_of}
use Rattle.skk_outside.specs.Moved.{MovedSink}
use Rattle.command_line.specs.declared.command.DumpOptions.{DumpOptions}
use Rattle.skk_top.specs.Disks.{MovedDisk, RefusesLearned, IsOpening}
use Rattle.run_endings.specs.Finishes.{EndsUnbegun}
use Rattle.run_endings.specs.Page.{LeavesPrinted}
use Rattle.run_endings.specs.declared.finish.Run.{Run}

-- the learned file was opened, and the book was printed as a dictionary file: all of it, or a prefix
pub record PrintsBook {D : Type 0} (options : DumpOptions) (run : Run D) (out : MovedSink) (disk : MovedDisk)
    : Type 0 where
  pub opening : Opening
  pub opened : IsOpening disk [] 268435456 opening
  pub printed : LeavesPrinted (encode_utf8_all (printed_file (rows_of opening.state options.book))) run.ended out

-- what a run of `dump` leaves: the learned file is refused, and nothing was printed, or the book was printed
abbrev pub LeavesDumped : {D : Type 0} → DumpOptions → Run D → MovedSink → MovedDisk → Type 0
LeavesDumped options run out disk =
    EndsUnbegun (RefusesLearned disk) run out ⊎ PrintsBook options run out disk
