-- The files of a run: why each is refused, and what the reading of them leaves.
use Rattle.std.specs.Prelude.{◌≡◌, ◌<◌, ⊤, ℕ, List, IfSome, length}
use Rattle.skk_text.specs.TextFiles.{IsTextFault}
use Rattle.skk_text.specs.declared.text_file.TextFault.TheVariants as texts
use Rattle.skk_outside.specs.Faults.{Rose}
use Rattle.skk_outside.specs.Moved.{Told}
use Rattle.run_endings.specs.declared.run_file.RunFile.{RunFile}
use Rattle.run_endings.specs.declared.run_file.Flaw.{Flaw}
use Rattle.run_endings.specs.declared.run_file.Flaw.TheVariants.{TooLong, Byte, Line}
use Rattle.run_endings.specs.declared.fault.RunFault.{RunFault}
use Rattle.run_endings.specs.declared.fault.RunFault.TheVariants.{Refused, Outside, Memory}

-- bytes have a flaw by which they are no text within a limit
abbrev pub HasTextFlaw : ℕ → Flaw → List ℕ → Type 0
HasTextFlaw limit TooLong bytes = limit < length bytes
HasTextFlaw limit (Byte at) bytes = IsTextFault limit bytes (texts.NotUtf8 at)
HasTextFlaw limit (Line number) bytes = ⊥

-- why a file is not had: it is refused for a flaw of its bytes, as far as these are told, or a call on what it lies in
-- failed, or memory is out
abbrev pub RefusesFile : RunFile → (Flaw → List ℕ → Type 0) → Told → ℕ → ℕ → RunFault → Type 0
RefusesFile file HasFlaw told faults faults' (Refused other flaw) = (other ≡ file) × IfSome told (HasFlaw flaw)
RefusesFile file HasFlaw told faults faults' Outside = Rose faults faults'
RefusesFile file HasFlaw told faults faults' Memory = ⊤
RefusesFile file HasFlaw told faults faults' fault = ⊥

-- bytes are more than a limit, which is the one flaw that reading tells
abbrev pub IsLonger : ℕ → Flaw → List ℕ → Type 0
IsLonger limit TooLong bytes = limit < length bytes
IsLonger limit flaw bytes = ⊥

-- why the bytes of a file are refused: for a flaw of theirs, or for want of memory
abbrev pub RefusesBytes : RunFile → (Flaw → List ℕ → Type 0) → List ℕ → RunFault → Type 0
RefusesBytes file HasFlaw bytes (Refused other flaw) = (other ≡ file) × HasFlaw flaw bytes
RefusesBytes file HasFlaw bytes Memory = ⊤
RefusesBytes file HasFlaw bytes fault = ⊥
