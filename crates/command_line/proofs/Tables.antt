-- Words looked up in tables.
use Rattle.std.proofs.Common.{◌≡◌, ◌≢◌, ◌∙◌, sym, ap, ℕ, None, Some, List, [], ◌∷◌, cond, refl}
use Rattle.std.specs.Map.{lookup}
use Rattle.std.specs.Str.{bytes_eq}
use Rattle.std.proofs.lemmas.Bool.{false_from_ne_true}
use Rattle.std.proofs.lemmas.Slice.Eq.{bytes_eq-Decides}

-- a word is none of those that a table has
abbrev pub IsNoneOf : {X : Type 0} → List ℕ → List (List ℕ × X) → Type 0
IsNoneOf word [] = Unit {0}
IsNoneOf word (row ∷ rows) = (word ≢ row.0) × IsNoneOf word rows

pub not-found : {X : Type 0} (word : List ℕ) (rows : List (List ℕ × X)) → IsNoneOf word rows
    → None ≡ lookup (bytes_eq word) rows
not-found word [] none = refl
not-found word (row ∷ rows) none =
    not-found word rows none.1 ∙ sym (ap (λ b. cond b (Some row.1) (lookup (bytes_eq word) rows))
    (false_from_ne_true (bytes_eq word row.0) (λ same. none.0 ((bytes_eq-Decides word row.0).0 same))))
