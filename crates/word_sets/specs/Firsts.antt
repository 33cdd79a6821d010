-- Items of which each has a text, in the order in which they came, the first of each text.
use Rattle.std.specs.Prelude.{ℕ, if◌then◌else◌, List, [], ◌∷◌, ◌++◌, map}
use Rattle.skk_calls.specs.Rows.{has_text}

-- items with one more at their end, where its text is a new one
abbrev pub with_new : {X : Type 0} → (X → List ℕ) → List X → X → List X
with_new text_of xs x = if has_text (map text_of xs) (text_of x) then xs else xs ++ x ∷ []
