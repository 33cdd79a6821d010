-- Places of a list that are sorted by the items there.
use Rattle.std.proofs.Common.{◌≡◌, ℕ, Bool, true, Option, Some, List, [], ◌∷◌, map, refl, ◌∙◌}
use Rattle.std.proofs.Common.{subst, arith}
use Rattle.std.specs.Cmp.{IsStrictWeakOrder}
use Rattle.std.specs.List.{list_all}
use Rattle.std.specs.List.Sorted.{IsPermutation, IsSortedBy}
use Rattle.std.proofs.lemmas.List.Sorted.{IsPermutation-map}
use Rattle.skk_text.specs.Pairs.{all_pairs}
use Rattle.skk_text.specs.PairsLaws.{all_pairs-map}
use Rattle.ordered_lists.specs.OrderLaws.{apart, sort-map, sorted_once, sorted_read}
use Rattle.ordered_lists.specs.Orders.{option_less, sort_by}

all_true : {X : Type 0} (xs : List X) → list_all (λ (x : X). true) xs ≡ true
all_true [] = refl
all_true (x ∷ xs) = all_true xs

module _ {X : Type 0} (less : X → X → Bool) where
  -- items that may not be there are ordered as those that are
  pub option_order : IsStrictWeakOrder less → IsStrictWeakOrder (option_less less)
  option_order order = record {
    one_way = λ x y e. grind (arith, order.one_way);
    chain = λ x y z e f. grind (arith, order.chain);
  }

  -- places that are sorted by the items there, of which always one is less, are those of the items in order
  pub sorted_places : IsStrictWeakOrder less → (read : ℕ → Option X) (places moved : List ℕ) (kept : List X)
      → map read places ≡ map Some kept → all_pairs (apart less) kept ≡ true
      → IsPermutation places moved → IsSortedBy (λ place other. option_less less (read place) (read other)) moved
      → map read moved ≡ map Some (sort_by less kept)
  sorted_places order read places moved kept here others moves sorted =
      sorted_once (option_less less) (option_order order) (map Some kept) (map read moved)
      (all_pairs-map Some (apart (option_less less)) kept ∙ others)
      (subst (λ (os : List (Option X)). IsPermutation os (map read moved)) here
      (IsPermutation-map read places moved moves))
      (sorted_read read (option_less less) moved sorted)
      ∙ sort-map Some less (option_less less) (λ x. true) (λ x y _ _. refl) kept (all_true kept)
