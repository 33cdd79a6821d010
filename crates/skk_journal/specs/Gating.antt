-- What adding records, in two steps, does to the live file.
use Rattle.std.specs.Prelude.{◌≡◌, ◌⊎◌, ℕ, ◌+◌, List}
use Rattle.skk_journal.specs.declared.live.Doubt.{Doubt}
use Rattle.skk_journal.specs.declared.live.Doubt.TheVariants as doubts
use Rattle.skk_journal.specs.Contents.{Contents, with_added}
use Rattle.skk_journal.specs.Records.{end_of, HasContents, HasAddition}

-- a file has the added records behind these contents and some gate, which may be open or closed
abbrev pub IsStaged : ℕ → ℕ → Contents → List (List ℕ) → List ℕ → Type 0
IsStaged newest generation contents added file =
    (gate : ℕ) × HasAddition newest generation contents added gate file

-- where the records of a file end here, its contents stay
abbrev pub KeepsContents : ℕ → List ℕ → List ℕ → Type 0
KeepsContents end old new =
    (newest generation : ℕ) (contents : Contents) → end ≡ end_of contents.records
    → HasContents newest generation contents old → HasContents newest generation contents new

-- where the records of a file end here, the added ones stand behind them, behind some gate
abbrev pub Stages : ℕ → List (List ℕ) → List ℕ → List ℕ → Type 0
Stages end added old new =
    (newest generation : ℕ) (contents : Contents) → end ≡ end_of contents.records
    → HasContents newest generation contents old → IsStaged newest generation contents added new

-- records that stand behind the gate at this place stay there, whatever that gate is
abbrev pub KeepsStaged : ℕ → List ℕ → List ℕ → Type 0
KeepsStaged at old new =
    (newest generation : ℕ) (contents : Contents) (added : List (List ℕ)) → at + 1 ≡ end_of contents.records
    → IsStaged newest generation contents added old → IsStaged newest generation contents added new

-- the gate at this place, behind which records stand, is this one
abbrev pub Gates : ℕ → ℕ → List ℕ → List ℕ → Type 0
Gates at gate old new =
    (newest generation : ℕ) (contents : Contents) (added : List (List ℕ)) → at + 1 ≡ end_of contents.records
    → IsStaged newest generation contents added old → HasAddition newest generation contents added gate new

-- where the records of a file end here, all of the added ones count behind them
abbrev pub Adds : ℕ → List (List ℕ) → List ℕ → List ℕ → Type 0
Adds end added old new =
    (newest generation : ℕ) (contents : Contents) → end ≡ end_of contents.records
    → HasContents newest generation contents old → HasContents newest generation (with_added contents added) new

-- where the records of a file end here, none of the added ones counts, or all of them do
abbrev pub AddsAllOrNone : ℕ → List (List ℕ) → List ℕ → List ℕ → Type 0
AddsAllOrNone end added old new =
    (newest generation : ℕ) (contents : Contents) → end ≡ end_of contents.records
    → HasContents newest generation contents old
    → HasContents newest generation contents new ⊎ HasContents newest generation (with_added contents added) new

-- behind an addition that failed: with nothing in doubt the contents stayed, and with their gate in doubt the added
-- records stand behind them
abbrev pub FailsAdding : Doubt → ℕ → List (List ℕ) → List ℕ → List ℕ → Type 0
FailsAdding doubts.Calm end added old new = KeepsContents end old new
FailsAdding doubts.Record end added old new = Stages end added old new
FailsAdding doubts.Idle end added old new = ⊥
