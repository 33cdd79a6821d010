-- What a run of `type` leaves.
use Rattle.std.specs.Prelude.{◌≡◌, ◌⊎◌, ◌≤◌, ◌<◌, ℕ, true, Some, List, [], IfSome, length}
use Rattle.std.specs.Io.KnownBytes.{Appends, IsAtEnd, Keeps}
use Rattle.skk_outside.specs.Moved.{MovedShelf, MovedSource, MovedSink}
use Rattle.romaji_rules.specs.declared.rule.Rule.{Rule}
use Rattle.skk_calls.specs.declared.chronicle.Noted.{Noted}
use Rattle.skk_calls.specs.Histories.{Opening}
use Rattle.skk_calls.specs.Interactions.{Interaction, asked, printed, end_of, answers_of, calls_of}
use Rattle.skk_calls.specs.Openings.{IsLegalOver, said_in, are_of_one}
use Rattle.skk_calls.specs.Rows.{Row}
use Rattle.skk_text.specs.Lines.{lines_of}
use Rattle.command_line.specs.Command.{limit_of}
use Rattle.command_line.specs.declared.command.TypeOptions.{TypeOptions}
use Rattle.skk_top.specs.Dictionaries.{AreRowsOf}
use Rattle.caller_work.specs.Disks.{DiskNow}
use Rattle.skk_top.specs.Disks.{MovedDisk, RefusesLearned, IsOpening}
use Rattle.skk_top.specs.LinesWork.{LeavesWork}
use Rattle.run_endings.specs.Finishes.{EndsUnbegun}
use Rattle.skk_top.specs.NamedFiles.{rules_named, dictionaries_named, RefusesNamed}
use Rattle.skk_top.specs.RunFiles.{RefusesFile}
use Rattle.skk_top.specs.RunRules.{AreRules}
use Rattle.key_scripts.specs.Script.{IsScript, IsFirstBad, script_limit}
use Rattle.script_typing.specs.Typed.{typed_alone, typing}
use Rattle.run_endings.specs.declared.fault.RunFault.{RunFault}
use Rattle.run_endings.specs.declared.fault.RunFault.TheVariants.{Memory}
use Rattle.run_endings.specs.declared.finish.Run.{Run}
use Rattle.key_scripts.specs.declared.line.Line.{Line}
use Rattle.run_endings.specs.declared.run_file.Flaw.{Flaw}
use Rattle.run_endings.specs.declared.run_file.Flaw.TheVariants as flaws
use Rattle.run_endings.specs.declared.run_file.RunFile.TheVariants.{Script}

-- What reading leaves

-- bytes are no script, for this flaw: they are too many, or else this line of them is the first bad one
abbrev pub HasScriptFlaw : Flaw → List ℕ → Type 0
HasScriptFlaw flaws.TooLong bytes = script_limit < length bytes
HasScriptFlaw (flaws.Byte at) bytes = ⊥
HasScriptFlaw (flaws.Line number) bytes = (length bytes ≤ script_limit) × IsFirstBad (lines_of bytes) number

-- why no script is had
abbrev pub RefusesScript : MovedSource → RunFault → Type 0
RefusesScript input = RefusesFile Script HasScriptFlaw input.left input.faults input.faults'

-- What a chronicle has

-- a chronicle is legal over its opening; each entry is the one caller's; and its calls are those that an interaction
-- asks, each by the answers before it
pub record KeepsChronicle {S : Type 0} (opening : Opening) (asking : Interaction S) (chronicle : List Noted) : Type 0
  where
    pub legal : IsLegalOver opening chronicle
    pub one : are_of_one chronicle ≡ true
    pub asks : asked asking (answers_of (said_in chronicle 0)) ≡ calls_of (said_in chronicle 0)

-- What typing leaves

-- what the typing of lines by some rules leaves where one caller makes all calls: they are asked one by one, what is
-- printed by their answers was printed, and that is also what is printed where the dictionary of one thread answers
abbrev pub TypesLines : {D : Type 0} → Opening → List Rule → List Line → Run D → MovedSink → DiskNow → Type 0
TypesLines opening rules lines run out disk =
    let answers = answers_of (said_in run.chronicle 0) in
    LeavesWork opening (KeepsChronicle opening (typing rules [] lines) run.chronicle)
    (end_of (typing rules [] lines) answers ≡ Some tt) (printed (typing rules [] lines) answers)
    (Appends out.written out.written' (typed_alone opening rules lines)) run out disk

-- what the typing of lines leaves in some manner, over an opening and by some rules
abbrev pub Manner : Type 0 → Type 1
Manner D = Opening → List Rule → List Line → Run D → MovedSink → DiskNow → Type 0

-- what the typing of a script's lines leaves: there was no memory to begin, or they were typed
abbrev pub LeavesBegun : {D : Type 0} → Manner D → Opening → List Rule → List Line → Run D → MovedSink → DiskNow
    → Type 0
LeavesBegun Lines opening rules lines run out disk =
    EndsUnbegun (λ fault. fault ≡ Memory) run out ⊎ Lines opening rules lines run out disk

-- the script was read to its end, and then its typing began
pub record TypesScript {D : Type 0} (Lines : Manner D) (opening : Opening) (rules : List Rule) (run : Run D)
    (input : MovedSource) (out : MovedSink) (disk : DiskNow) : Type 0 where
  pub lines : List Line
  pub script : IfSome input.left (λ bytes. IsScript bytes lines)
  pub at_end : IsAtEnd input.left'
  pub typed : LeavesBegun Lines opening rules lines run out disk

-- what reading a script and typing it leaves
abbrev pub LeavesScript : {D : Type 0} → Manner D → Opening → List Rule → Run D → MovedSource → MovedSink → DiskNow
    → Type 0
LeavesScript Lines opening rules run input out disk =
    EndsUnbegun (RefusesScript input) run out ⊎ TypesScript Lines opening rules run input out disk

-- the learned file was opened, and then a script was read
pub record TypesOpened {D : Type 0} (Lines : Manner D) (limit : ℕ) (files : List (List Row)) (rules : List Rule)
    (run : Run D) (input : MovedSource) (out : MovedSink) (disk : MovedDisk) : Type 0 where
  pub opening : Opening
  pub opened : IsOpening disk files limit opening
  pub typed : LeavesScript Lines opening rules run input out disk.after

-- what opening the learned file and typing a script leaves: it is refused, and the input is not read, or it was opened
abbrev pub LeavesLearned : {D : Type 0} → Manner D → ℕ → List (List Row) → List Rule → Run D → MovedSource
    → MovedSink → MovedDisk → Type 0
LeavesLearned Lines limit files rules run input out disk =
    (EndsUnbegun (RefusesLearned disk) run out × Keeps input.left input.left')
    ⊎ TypesOpened Lines limit files rules run input out disk

-- the files that the options name were read, and then the learned file was opened
pub record TypesNamed {D : Type 0} (Lines : Manner D) (options : TypeOptions) (run : Run D) (shelf : MovedShelf)
    (input : MovedSource) (out : MovedSink) (disk : MovedDisk) : Type 0 where
  pub rules : List Rule
  pub books : List (List Row)
  pub are_rules : AreRules (rules_named options.rules shelf) rules
  pub are_rows : AreRowsOf books (dictionaries_named options.dictionaries.items shelf)
  pub typed : LeavesLearned Lines (limit_of options.limit) books rules run input out disk

-- what a run of `type` leaves: a file that the options name is refused, and the input is not read and the disk not
-- touched, or they were read
abbrev pub LeavesTyped : {D : Type 0} → Manner D → TypeOptions → Run D → MovedShelf → MovedSource → MovedSink
    → MovedDisk → Type 0
LeavesTyped Lines options run shelf input out disk =
    (EndsUnbegun (RefusesNamed options.rules options.dictionaries.items shelf) run out
    × Keeps input.left input.left' × disk.is_untouched)
    ⊎ TypesNamed Lines options run shelf input out disk
