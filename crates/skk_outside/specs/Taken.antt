-- What was taken from a source.
use Rattle.std.specs.Prelude.{ℕ, ◌≤◌, List, length, Option}
use Rattle.std.specs.Io.KnownBytes.{Consumes}

-- known bytes lose at most so many from their head, and bytes that are not known may lose any
abbrev pub TakesAtMost : Option (List ℕ) → Option (List ℕ) → ℕ → Type 0
TakesAtMost old new count = (taken : List ℕ) × (length taken ≤ count) × Consumes old new taken
