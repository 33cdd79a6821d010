-- What a read of a named file gives.
use Rattle.std.specs.Prelude.{◌≡◌, ◌<◌, ◌≤◌, ℕ, List, length, take, drop, Option, Result, IfSome, IfOk}
use Rattle.std.specs.Io.{StartsWith}

-- the bytes stand in a file from a place on, where the file is told
abbrev pub StandsAt : Option (List ℕ) → ℕ → List ℕ → Type 0
StandsAt told place bytes = IfSome told (λ file. StartsWith (drop place file) bytes)

-- a file ends at a place or before it, where the file is told
abbrev pub EndsBy : Option (List ℕ) → ℕ → Type 0
EndsBy told place = IfSome told (λ file. length file ≤ place)

-- a read from a place on gives bytes that stand there, and none only where the file ends by then or there is no room
abbrev pub ReadsFrom : {E : Type 0} → Option (List ℕ) → ℕ → Result ℕ E → List ℕ → Type 0
ReadsFrom told place result into =
    IfOk result (λ n. StandsAt told place (take n into) × (n ≡ 0 → 0 < length into → EndsBy told place))
