-- What holds of texts that have values: what is found of them, and what is set.
use Rattle.std.proofs.Common.{◌≡◌, ℕ, true, false, if◌then◌else◌, Some, None, List, [], ◌∷◌, map, refl, arith}
use Rattle.std.specs.Map.{lookup, set_value}
use Rattle.skk_calls.specs.DifferLaws.{differ_parts}
use Rattle.skk_calls.specs.KeyLaws.{same_equal}
use Rattle.skk_calls.specs.Rows.{same_text, has_text, texts_differ}

module _ {X V : Type 0} (text_of : X → List ℕ) where
  -- the texts of items, each with its value
  abbrev pub valued : (List ℕ → V) → List X → List (List ℕ × V)
  valued value xs = map (λ x. (text_of x, value (text_of x))) xs

  -- the value of a text
  pub found_value : (value : List ℕ → V) (text : List ℕ) (xs : List X) → lookup (same_text text) (valued value xs)
      ≡ (if has_text (map text_of xs) text then Some (value text) else None)
  found_value value text [] = refl
  found_value value text (x ∷ xs) = grind (arith, same_equal text (text_of x), found_value value text xs)

  -- where a text alone has another value
  module _ (text : List ℕ) (old new : List ℕ → V)
      (others : (other : List ℕ) → same_text text other ≡ false → old other ≡ new other) where
    -- and does not stand, nothing changes
    pub same_values : (xs : List X) → has_text (map text_of xs) text ≡ false → valued old xs ≡ valued new xs
    same_values [] none = refl
    same_values (x ∷ xs) none = grind (arith, others (text_of x), same_values xs)

    -- its value is set
    pub set_there : (xs : List X) → texts_differ (map text_of xs) ≡ true
        → set_value (same_text text) (valued old xs) (new text) ≡ valued new xs
    set_there [] differ = refl
    set_there (x ∷ xs) differ =
        let parts = differ_parts (text_of x) (map text_of xs) differ in
        grind (arith, same_equal text (text_of x), same_values xs, others (text_of x), set_there xs)
