-- What was heard of a server whose bytes come in pieces.
use Rattle.std.specs.Prelude.{◌≡◌, ◌<◌, ℕ, Bool, true, false, Option, None, Some, Result, Ok, Err, List, ◌++◌, length}
use Rattle.std.specs.Io.KnownBytes.{Consumes}
use Rattle.exact_readers.specs.Lines.{is_line_feed, without_return}
use Rattle.cut_input.specs.Pieces.{IsBegun}
use Rattle.skkserv_client.specs.declared.question.Ask.{Ask}
use Rattle.skkserv_client.specs.declared.told.AskFault.{AskFault}
use Rattle.skkserv_client.specs.declared.told.AskFault.TheVariants as faults
use Rattle.skkserv_client.specs.declared.told.Told.{Told}
use Rattle.skkserv_client.specs.Replies.{line_of, longest_line, told_by}

-- the result is the wanted one, unless the link failed or memory is out
abbrev pub TellsUnless : {X : Type 0} → Result X AskFault → Result X AskFault → Type 0
TellsUnless (Err faults.LinkFault) wanted = Unit {0}
TellsUnless (Err faults.Memory) wanted = Unit {0}
TellsUnless result wanted = result ≡ wanted

-- what was told is what the bytes tell that a link has left, where it tells them
abbrev pub HearsReply : Option (List ℕ) → Ask → Result Told AskFault → Type 0
HearsReply None what result = Unit {0}
HearsReply (Some left) what result = TellsUnless result (told_by what left)

-- a line, which may end in a CR, or why there is none, is that of bytes
abbrev pub IsLineOf : List ℕ → Result (List ℕ) AskFault → Type 0
IsLineOf bytes (Ok line) = line_of bytes ≡ Ok (without_return line)
IsLineOf bytes (Err fault) = TellsUnless {X = List ℕ} (Err fault) (line_of bytes)

-- the same of a line that begins with some bytes and goes on with those that a link has left, where it tells them
abbrev pub HearsLine : Option (List ℕ) → List ℕ → Result (List ℕ) AskFault → Type 0
HearsLine None begun result = Unit {0}
HearsLine (Some left) begun result = IsLineOf (begun ++ left) result

-- bytes of a line that has not ended
abbrev pub IsBegunLine : List ℕ → Type 0
IsBegunLine line = IsBegun is_line_feed longest_line line

-- a line with more bytes, which end it or do not, whatever bytes come behind these
abbrev pub GoesOnWith : List ℕ → List ℕ → List ℕ → Result Bool AskFault → Type 0
GoesOnWith begun bytes begun' (Ok true) = (more : List ℕ) → IsLineOf (begun ++ (bytes ++ more)) (Ok begun')
GoesOnWith begun bytes begun' (Ok false) = (begun' ≡ begun ++ bytes) × IsBegunLine begun'
GoesOnWith begun bytes begun' (Err fault) = (more : List ℕ) → IsLineOf (begun ++ (bytes ++ more)) (Err fault)

-- bytes that were read of a link, one or more, stand behind a line that has not ended
pub record HearsMore (left left' : Option (List ℕ)) (begun begun' : List ℕ) : Type 0 where
  pub bytes : List ℕ
  pub some : 0 < length bytes
  pub line : begun' ≡ begun ++ bytes
  pub taken : Consumes left left' bytes
  pub unended : IsBegunLine begun'

-- a line goes on with bytes of a link, which end it or do not
abbrev pub GoesOnBy : Option (List ℕ) → Option (List ℕ) → List ℕ → List ℕ → Result Bool AskFault → Type 0
GoesOnBy left left' begun begun' (Ok true) = HearsLine left begun (Ok begun')
GoesOnBy left left' begun begun' (Ok false) = HearsMore left left' begun begun'
GoesOnBy left left' begun begun' (Err fault) = HearsLine left begun (Err fault)
