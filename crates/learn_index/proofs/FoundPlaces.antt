-- The item of a key among items that ascend, as it is read at the key's place.
use Rattle.std.proofs.Common.{◌≡◌, ℕ, true, false, cond, Option, None, Some, List, get_or, slice_get, refl, sym}
use Rattle.std.proofs.Common.{ap, ◌∙◌}
use Rattle.std.specs.Option.{option_and_then}
use Rattle.ordered_lists.specs.Orders.{Order, IsPlace, ascend, item_of, passes}
use Rattle.ordered_lists.specs.PlaceLaws.{if_has, item_at}
use Rattle.learn_index.proofs.Changes.{read_at}

module _ {X K : Type 0} (key : X → K) (keys : Order K) (k : K) (xs : List X) (i : ℕ)
    (ascending : ascend key keys xs ≡ true) (place : IsPlace key keys k xs i) where
  -- it is the one that stands there, where that has the key
  pub found_there : (x : X) → passes (λ y. keys.same (key y) k) (slice_get xs i) ≡ true → x ≡ get_or xs i x
      → Some x ≡ item_of key keys k xs
  found_there x there read =
      let at = read_at (λ y. keys.same (key y) k) xs i x there read in
      sym (item_at key keys k xs i ascending place ∙ ap (option_and_then (if_has key keys k)) at.0
      ∙ ap (λ b. cond b (Some x) None) at.1)

  -- and else none has it
  pub none_there : passes (λ y. keys.same (key y) k) (slice_get xs i) ≡ false → None ≡ item_of key keys k xs
  none_there missing = sym (item_at key keys k xs i ascending place ∙ none (slice_get xs i) missing)
    where
      none : (found : Option X) → passes (λ y. keys.same (key y) k) found ≡ false
          → option_and_then (if_has key keys k) found ≡ None
      none None e = refl
      none (Some x) e = ap (λ b. cond b (Some x) None) e
