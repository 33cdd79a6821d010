-- A loop that takes one value a turn.
use Rattle.std.proofs.Common.{◌≡◌, None, Some, List, [], ◌∷◌, ◌++◌, sym, ap, ◌∙◌, refl, append_assoc, append-nil}
use Rattle.exact_readers.specs.Formats.{Format, taken}
use Rattle.exact_readers.specs.Exact.{IsExact}
use Rattle.exact_readers.specs.ManyLaws.{taken-none, taken-some}

-- what was taken so far, and what is taken of what is left, are all that is taken
pub record HasTaken {X A : Type 0} (F : Format X A) (tokens : List X) (values : List A) (rest : List X) : Type 0 where
  pub items : values ++ (taken F.step rest).0 ≡ (taken F.step tokens).0
  pub left : (taken F.step rest).1 ≡ (taken F.step tokens).1

module _ {X A : Type 0} (F : Format X A) (exact : IsExact F) (tokens : List X) where
  -- nothing at first
  pub taken_first : (values : List A) → values ≡ [] → HasTaken F tokens values tokens
  taken_first values e = record { items = ap (λ vs. vs ++ (taken F.step tokens).0) e; left = refl }

  -- one more value
  pub taken_more : (values new : List A) (a : A) (rest behind : List X) → new ≡ values ++ a ∷ []
      → F.step rest ≡ Some (a, behind) → HasTaken F tokens values rest → HasTaken F tokens new behind
  taken_more values new a rest behind is next so_far =
      let more = taken-some F exact rest a behind next in
      record {
        items =
            ap (λ vs. vs ++ (taken F.step behind).0) is
            ∙ append_assoc values (a ∷ []) (taken F.step behind).0
            ∙ ap (λ (parts : List A × List X). values ++ parts.0) (sym more)
            ∙ so_far.items;
        left = ap (λ (parts : List A × List X). parts.1) (sym more) ∙ so_far.left;
      }

  -- all of them at the end
  pub taken_last : (values : List A) (rest : List X) → F.step rest ≡ None → HasTaken F tokens values rest
      → taken F.step tokens ≡ (values, rest)
  taken_last values rest ends so_far =
      let none = taken-none F exact rest ends in
      let items : (taken F.step tokens).0 ≡ values =
      sym so_far.items ∙ ap (λ (parts : List A × List X). values ++ parts.0) none ∙ append-nil values in
      let left : (taken F.step tokens).1 ≡ rest =
      sym so_far.left ∙ ap (λ (parts : List A × List X). parts.1) none in
      ap (λ vs. (vs, (taken F.step tokens).1)) items ∙ ap (λ zs. (values, zs)) left
