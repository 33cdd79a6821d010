-- What contracts say of lists.
use Rattle.std.specs.Prelude.{Bool, true, false, List, [], ◌∷◌}

-- a list has no item
abbrev pub is_empty : {X : Type 0} → List X → Bool
is_empty [] = true
is_empty (x ∷ xs) = false
