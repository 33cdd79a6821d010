-- How runs end and the program finishes.
use Rattle.std.specs.Prelude.{◌≡◌, [], IsErrAnd}
use Rattle.std.specs.Io.KnownBytes.{Keeps}
use Rattle.skk_outside.specs.Moved.{MovedSink}
use Rattle.run_endings.specs.Status.{run_status}
use Rattle.run_endings.specs.declared.fault.RunFault.{RunFault}
use Rattle.run_endings.specs.declared.finish.Finish.{Finish}
use Rattle.run_endings.specs.declared.finish.Run.{Run}

-- the finish of a run: its status, how it ended, and what it called
abbrev pub finish_of : {D : Type 0} → Run D → Finish D
finish_of run =
    record { status = run_status run.ended; ended = run.ended; chronicle = run.chronicle; disk = run.disk }

-- the run that came to a finish
abbrev pub run_of : {D : Type 0} → Finish D → Run D
run_of finish = record { ended = finish.ended; chronicle = finish.chronicle; disk = finish.disk }

-- a run ended with such a fault before it made a call or printed anything
pub record EndsUnbegun {D : Type 0} (Cause : RunFault → Type 0) (run : Run D) (out : MovedSink) : Type 0 where
  pub cause : IsErrAnd run.ended Cause
  pub uncalled : run.chronicle ≡ []
  pub unwritten : Keeps out.written out.written'
