-- What the idle file may be beside the live one, so that it does not count.
use Rattle.std.specs.Prelude.{◌≡◌, ◌≢◌, ◌⊎◌, ℕ, ◌≤◌, ◌==◌, true, if◌then◌else◌, Option, None, Some, List, [], ◌∷◌, ◌++◌}
use Rattle.std.specs.Prelude.{length, drop}
use Rattle.skk_journal.specs.declared.live.Live.{Live}
use Rattle.skk_journal.specs.declared.live.Idle.{Idle}
use Rattle.skk_journal.specs.declared.live.Idle.TheVariants.{Blank, Loose, Stray}
use Rattle.skk_journal.specs.Contents.{no_records}
use Rattle.skk_journal.specs.Records.{mark, IsVersion, Marked, HasContents}
use Rattle.skk_journal.specs.Generations.{counts}
use Rattle.skk_journal.specs.Heads.{is_fresh}

-- a file with an open gate of its own gives way: beside a live one that counts; beside none it has no records
abbrev pub GivesWay : ℕ → Option Live → List ℕ → Type 0
GivesWay newest None file =
    (version : ℕ) × (generation : ℕ) × HasContents newest generation (no_records version) file
GivesWay newest (Some live) file =
    (version : ℕ) × (older : ℕ) × Marked newest 1 version older file × (counts live older ≡ true)

-- a file does not count beside the live one, or beside none: it is fresh, or it gives way
abbrev pub IsIdle : ℕ → Option Live → List ℕ → Type 0
IsIdle newest beside file = (is_fresh newest file ≡ true) ⊎ GivesWay newest beside file

-- the first byte of a file is 0
abbrev pub IsBlank : List ℕ → Type 0
IsBlank file = (rest : List ℕ) × (file ≡ 0 ∷ rest)

-- whatever its first byte is, a file is idle: it has no other byte, or with an open gate it gives way
abbrev pub IsLoose : ℕ → Option Live → List ℕ → Type 0
IsLoose newest beside file =
    (length file ≤ 1)
    ⊎ ((first : ℕ) × (version : ℕ) × (rest : List ℕ) × (file ≡ first ∷ (mark version ++ rest))
    × IsVersion newest version × GivesWay newest beside (1 ∷ (mark version ++ rest)))

-- the first byte of a file is neither 0 nor 1, and its mark is right
abbrev pub IsStray : ℕ → List ℕ → Type 0
IsStray newest file =
    (first : ℕ) × (version : ℕ) × (rest : List ℕ) × (file ≡ first ∷ (mark version ++ rest))
    × IsVersion newest version × (first ≢ 0) × (first ≢ 1)

-- what is known of the idle file holds of it
abbrev pub IsKnown : ℕ → Option Live → Idle → List ℕ → Type 0
IsKnown newest beside Blank file = IsBlank file
IsKnown newest beside Loose file = IsLoose newest beside file
IsKnown newest beside Stray file = IsStray newest file

-- a file has the bytes of another one but for the first byte
abbrev pub OtherFirst : List ℕ → List ℕ → Type 0
OtherFirst old new =
    ((length old ≤ 1) × (length new ≤ 1))
    ⊎ ((first : ℕ) × (next : ℕ) × (rest : List ℕ) × (old ≡ first ∷ rest) × (new ≡ next ∷ rest))

-- a file has the bytes of another one behind this first byte
abbrev pub FirstIs : ℕ → List ℕ → List ℕ → Type 0
FirstIs first old new = new ≡ first ∷ drop 1 old

-- what is known of a file by its first two bytes, where it is fresh, or headed beside a live file that counts
abbrev pub idle_of : List ℕ → Idle
idle_of [] = Loose
idle_of (first ∷ []) = if first == 0 then Blank else Loose
idle_of (first ∷ second ∷ rest) = if first == 0 then Blank else if first == 1 then Loose else Stray

-- what is known of a fresh file by its first bytes holds of it
abbrev pub IsFreshAs : ℕ → Idle → List ℕ → Type 0
IsFreshAs newest Blank file = IsBlank file
IsFreshAs newest Loose file = length file ≤ 1
IsFreshAs newest Stray file = IsStray newest file
