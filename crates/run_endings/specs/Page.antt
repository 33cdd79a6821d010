-- What is written to a sink, and what was printed so far while a page waits to be written.
use Rattle.std.specs.Prelude.{◌≡◌, ◌≤◌, ⊤, ℕ, Result, List, ◌++◌, OnOk, OnErr, IfErr, encode_utf8_all}
use Rattle.std.specs.Io.KnownBytes.{Appends}
use Rattle.skk_outside.specs.Faults.{Rose}
use Rattle.skk_outside.specs.Moved.{Told, MovedSink}
use Rattle.skk_outside.specs.Written.{AppendsPrefix}
use Rattle.skk_outside.specs.declared.outside.Failed.{Failed}
use Rattle.run_endings.specs.Status.{Ended}
use Rattle.run_endings.specs.declared.fault.RunFault.{RunFault}
use Rattle.run_endings.specs.declared.fault.RunFault.TheVariants.{Outside, Memory}

-- what the writing of bytes leaves in a sink: they were written, or a prefix of them where a write failed
pub record Writes (bytes : List ℕ) (result : Result (Unit {0}) Failed) (sink : MovedSink) : Type 0 where
  pub whole : OnOk result (Appends sink.written sink.written' bytes)
  pub prefix : OnErr result (AppendsPrefix sink.written sink.written' bytes)
  pub failed : OnErr result (Rose sink.faults sink.faults')
  pub counted : sink.faults ≤ sink.faults'

-- what was written since the start, the page, and the rest are together the whole
abbrev pub Printed : Told → Told → List ℕ → List ℕ → List ℕ → Type 0
Printed old new page rest whole =
    (done : List ℕ) × Appends old new (encode_utf8_all done) × (done ++ (page ++ rest) ≡ whole)

-- why printing stops: a call on the sink failed, or memory is out
abbrev pub StopsPrinting : MovedSink → RunFault → Type 0
StopsPrinting sink Outside = Rose sink.faults sink.faults'
StopsPrinting sink Memory = ⊤
StopsPrinting sink fault = ⊥

-- what the printing of bytes leaves in a sink, by how it ends
pub record LeavesPrinted (bytes : List ℕ) (ended : Ended) (sink : MovedSink) : Type 0 where
  pub whole : OnOk ended (Appends sink.written sink.written' bytes)
  pub prefix : OnErr ended (AppendsPrefix sink.written sink.written' bytes)
  pub stopped : IfErr ended (StopsPrinting sink)
  pub counted : sink.faults ≤ sink.faults'
