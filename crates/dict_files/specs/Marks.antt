-- Every sixteenth item of a list.
use Rattle.std.specs.Prelude.{ℕ, zero, suc, List, [], ◌∷◌}

-- the items of a list behind so many, and from each to the next so many between them
abbrev pub spaced : {X : Type 0} → ℕ → List X → ℕ → List X
spaced between [] skipped = []
spaced between (x ∷ xs) zero = x ∷ spaced between xs between
spaced between (x ∷ xs) (suc skipped) = spaced between xs skipped

-- the first item, and every sixteenth behind it
abbrev pub every_sixteenth : {X : Type 0} → List X → List X
every_sixteenth xs = spaced 15 xs 0
