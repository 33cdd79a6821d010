-- Results of calls that may be out of memory.
use Rattle.std.specs.Prelude.{◌≡◌, ◌⊎◌, Result, Err}

-- the result is the wanted one, unless it is this fault, which tells that memory is out
abbrev pub AnswersUnless : {T E : Type 0} → E → Result T E → Result T E → Type 0
AnswersUnless memory result wanted = (result ≡ Err memory) ⊎ (result ≡ wanted)
