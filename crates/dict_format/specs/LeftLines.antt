-- How far a file is read: the lines that are left of it, and their entries.
use Rattle.std.specs.Prelude.{◌≡◌, ◌≤◌, ℕ, ◌+◌, List, ◌++◌, length}
use Rattle.skk_calls.specs.declared.part.Part.{Part}
use Rattle.dict_format.specs.declared.lines.FileLine.{FileLine}
use Rattle.dict_format.specs.FileLines.{FileEntry, entries_from, entry_of}

-- the bytes of a file and the lines that are left of it: how many were before these, and the part in which they stand
pub record LeftLines : Type 0 where
  pub text : List ℕ
  pub lines : List (List ℕ)
  pub number : ℕ
  pub part : Part

-- their entries
abbrev pub entries_left : LeftLines → List FileEntry
entries_left left = entries_from (left.number + 1) left.part left.lines

-- the entry that a line is, if it is one
abbrev pub entries_at : FileLine → List FileEntry
entries_at line = entry_of line.kind line.number line.part line.text.now

-- the rest stands at the end of the bytes, behind no more lines than they have bytes before it
pub record IsReadTo (bytes rest : List ℕ) (number : ℕ) : Type 0 where
  pub front : List ℕ
  pub parts : bytes ≡ front ++ rest
  pub few : number ≤ length front
