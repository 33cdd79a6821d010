-- What is left of pieces, of which a prefix was taken.
use Rattle.std.specs.Prelude.{ℕ, List, drop}
use Rattle.skk_outside.specs.Memory.{without_first_bytes}

-- the pieces from a place on, but for the bytes taken of the first of them
abbrev pub pieces_left : ℕ → ℕ → List (List ℕ) → List (List ℕ)
pieces_left place taken pieces = without_first_bytes taken (drop place pieces)
