-- Dictionaries: what their files list, one file or several in order, and why they are refused.
use Rattle.std.specs.Prelude.{◌≡◌, ⊤, ◌+◌, ℕ, List, [], ◌∷◌, ◌++◌, IfSome, All, length}
use Rattle.skk_outside.specs.Faults.{Rose}
use Rattle.skk_outside.specs.Moved.{Told}
use Rattle.skk_calls.specs.Rows.{Row}
use Rattle.dict_format.specs.FileLines.{Lists, ListsRows, file_limit}
use Rattle.dict_format.specs.declared.file.FileFault.{FileFault}
use Rattle.dict_format.specs.declared.file.FileFault.TheVariants as files
use Rattle.dict_format.specs.declared.file.Listed.{Listed}
use Rattle.skk_top.specs.RunFiles.{HasTextFlaw}
use Rattle.run_endings.specs.Status.{fault_of_text}
use Rattle.run_endings.specs.declared.run_file.RunFile.TheVariants.{Dictionary}
use Rattle.run_endings.specs.declared.run_file.Flaw.{Flaw}
use Rattle.run_endings.specs.declared.fault.RunFault.{RunFault}
use Rattle.run_endings.specs.declared.fault.RunFault.TheVariants.{Refused, Outside, Memory}

-- what a fault of its file is for the dictionary with this number
abbrev pub fault_of_file : ℕ → FileFault → RunFault
fault_of_file number (files.NoText fault) = fault_of_text (Dictionary number) fault
fault_of_file number files.Memory = Memory

-- bytes are no dictionary, for this flaw
abbrev pub HasDictionaryFlaw : Flaw → List ℕ → Type 0
HasDictionaryFlaw = HasTextFlaw file_limit

-- bytes list some rows and bad lines
abbrev pub IsDictionary : List ℕ → Type 0
IsDictionary bytes = (listed : Listed) × Lists bytes listed

-- each of these files that is told is a dictionary
abbrev pub AreDictionaries : List Told → Type 0
AreDictionaries files = All (λ file. IfSome file IsDictionary) files

-- the file with this number, counted from 1, has a property as far as it is told, and those before it are dictionaries
abbrev pub IsFirst : (List ℕ → Type 0) → ℕ → List Told → Type 0
IsFirst P number files =
    (before after : List Told) × (file : Told) × (files ≡ before ++ file ∷ after) × (number ≡ length before + 1)
    × AreDictionaries before × IfSome file P

-- why dictionaries are not had: the first file that is no dictionary is refused, or a call on the shelf failed,
-- or memory is out
abbrev pub RefusesDictionaries : List Told → ℕ → ℕ → RunFault → Type 0
RefusesDictionaries files faults faults' (Refused (Dictionary number) flaw) =
    IsFirst (HasDictionaryFlaw flaw) number files
RefusesDictionaries files faults faults' Outside = Rose faults faults'
RefusesDictionaries files faults faults' Memory = ⊤
RefusesDictionaries files faults faults' fault = ⊥

-- books are the rows that files list, one each in their order, as far as they are told
abbrev pub AreRowsOf : List (List Row) → List Told → Type 0
AreRowsOf [] [] = ⊤
AreRowsOf [] (file ∷ files) = ⊥
AreRowsOf (rows ∷ books) [] = ⊥
AreRowsOf (rows ∷ books) (file ∷ files) = IfSome file (λ bytes. ListsRows bytes rows) × AreRowsOf books files
