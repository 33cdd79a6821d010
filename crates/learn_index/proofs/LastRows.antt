-- Where a key stands that is behind the last item.
use Rattle.std.proofs.Common.{◌≡◌, ◌-◌, true, Some, List, length, slice_get, sym, subst, arith}
use Rattle.std.proofs.lemmas.Option.{get_or_from_slice_get, slice_get_within}
use Rattle.ordered_lists.specs.Orders.{Order, IsPlace, ascend}
use Rattle.ordered_lists.specs.PlaceLaws.{parted}

-- where the last of items that ascend has a lesser key, the place is behind them all
pub behind_all : {X K : Type 0} (key : X → K) (keys : Order K) (items : List X) (last : X) (sought : K)
    → ascend key keys items ≡ true → slice_get items (length items - 1) ≡ Some last
    → keys.less (key last) sought ≡ true → IsPlace key keys sought items (length items)
behind_all {X} key keys items last sought ascending there less = (
  λ place d low high. parted key keys sought items ascending place (length items - 1) d
      (omega (arith, high)) (slice_get_within items (length items - 1) last there)
      (subst (λ (item : X). keys.less (key item) sought ≡ true)
      (sym (get_or_from_slice_get items (length items - 1) last d there)) less),
  λ place d low high. absurd (omega (arith, low, high)),
)
