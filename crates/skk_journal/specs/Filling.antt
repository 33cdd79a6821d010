-- What the idle file is while it is filled.
use Rattle.std.specs.Prelude.{◌≡◌, ℕ, List, [], ◌∷◌, ◌++◌}
use Rattle.std.specs.Int.{w64}
use Rattle.exact_readers.specs.Numbers.{number_bytes}
use Rattle.skk_disk.specs.Image.{Image}
use Rattle.skk_journal.specs.Records.{mark, IsVersion}

-- whatever its first byte is, a file has a right mark, this generation and a closed gate behind it
abbrev pub IsAged : ℕ → ℕ → List ℕ → Type 0
IsAged newest generation file =
    (first : ℕ) × (version : ℕ) × (rest : List ℕ)
    × (file ≡ first ∷ (mark version ++ (number_bytes w64 generation ++ 0 ∷ rest))) × IsVersion newest version

-- what a file is made of: its own gate, the mark of a version, a generation, the bytes of records, and a closed gate
abbrev pub filled_bytes : ℕ → ℕ → ℕ → List ℕ → List ℕ
filled_bytes first version generation records =
    first ∷ (mark version ++ (number_bytes w64 generation ++ (records ++ 0 ∷ [])))

-- a file is filled with this version, this generation and these bytes of records, and its own gate is closed
abbrev pub IsReady : ℕ → ℕ → List ℕ → List ℕ → Type 0
IsReady version generation records file = file ≡ filled_bytes 0 version generation records

-- the first file of an image is a new one of this version, with no records
abbrev pub IsNew : ℕ → Image → Type 0
IsNew version image = image.a ≡ filled_bytes 1 version 1 []
