-- Tokens up to the first that ends them.
use Rattle.std.specs.Prelude.{ℕ, ◌≡◌, ◌==◌, Bool, true, not, if◌then◌else◌, Option, None, Some, List, [], ◌∷◌, ◌++◌}
use Rattle.std.specs.List.{list_all}
use Rattle.std.specs.Option.{option_map}
use Rattle.exact_readers.specs.Formats.{Format}

-- what stands before the first token that passes a test, and what behind it, where there is one
abbrev pub cut : {X : Type 0} → (X → Bool) → List X → Option (List X × List X)
cut test [] = None
cut test (x ∷ xs) = if test x then Some ([], xs) else option_map (λ parts. (x ∷ parts.0, parts.1)) (cut test xs)

-- tokens that fail a test, and then one that passes it, which ends them
abbrev pub up_to : {X : Type 0} → (X → Bool) → Format X (List X)
up_to test = record {
  Spells = λ front tokens. (end : _) × (test end ≡ true) × (list_all (λ x. not (test x)) front ≡ true)
      × (tokens ≡ front ++ end ∷ []);
  step = cut test;
}

-- a text without the spaces that it begins with
abbrev pub without_spaces : List ℕ → List ℕ
without_spaces [] = []
without_spaces (c ∷ text) = if c == 0x20 then without_spaces text else c ∷ text
