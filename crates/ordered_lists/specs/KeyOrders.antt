-- The orders of bytes and of numbers.
use Rattle.std.proofs.Common.{◌≡◌, ◌==◌, ℕ, Bool, true, false, ◌||◌, nat_lt, List, refl, ap, ◌∙◌, arith}
use Rattle.std.proofs.Common.{Ordering, Less, Equal, Greater}
use Rattle.std.specs.Cmp.{IsStrictWeakOrder}
use Rattle.std.specs.Cmp.Lexicographic.{slice_cmp}
use Rattle.std.specs.Ordering.{is_lt, nat_cmp, ordering_reverse}
use Rattle.std.specs.Str.{bytes_eq}
use Rattle.std.proofs.lemmas.Bool.{both_ways, eqb-true}
use Rattle.std.proofs.lemmas.Bool.Decides.{nat_tests}
use Rattle.std.proofs.lemmas.Cmp.{nat_list_cmp_total}
use Rattle.std.proofs.lemmas.List.Sorted.{ranks_by}
use Rattle.std.proofs.lemmas.Map.Lookups.{exact_bytes}
use Rattle.std.proofs.lemmas.Slice.Eq.{bytes_eq-Decides}
use Rattle.ordered_lists.specs.OrderLaws.{apart, less_trans, not_itself}
use Rattle.ordered_lists.specs.Orders.{Order}

-- bytes stand before others in the order of their values
abbrev pub bytes_less : List ℕ → List ℕ → Bool
bytes_less bytes other = is_lt (slice_cmp nat_cmp bytes other)

-- that is an order
pub bytes_order : IsStrictWeakOrder bytes_less
bytes_order = ranks_by nat_list_cmp_total (λ (bytes : List ℕ). bytes)

-- of bytes that differ some are less
pub bytes_apart : (bytes other : List ℕ) → bytes_eq bytes other ≡ false → apart bytes_less bytes other ≡ true
bytes_apart bytes other differ = by (slice_cmp nat_cmp bytes other) refl
  where
    by : (o : Ordering) → slice_cmp nat_cmp bytes other ≡ o → apart bytes_less bytes other ≡ true
    by Less e = ap (λ o. is_lt o || bytes_less other bytes) e
    by Equal e =
        absurd
        (both_ways (bytes_eq bytes other) differ ((bytes_eq-Decides bytes other).1 (exact_bytes bytes other e)))
    by Greater e =
        let less : bytes_less other bytes ≡ true =
        ap is_lt (nat_list_cmp_total.antisymm other bytes ∙ ap ordering_reverse e) in
        rw (ap is_lt e, less) refl

-- and what are one are equal
pub bytes_equal : (bytes other : List ℕ) → bytes_eq bytes other ≡ true → bytes ≡ other
bytes_equal bytes other e = (bytes_eq-Decides bytes other).0 e

-- so bytes are keys
abbrev pub byte_keys : Order (List ℕ)
byte_keys = record {
  less = bytes_less;
  same = bytes_eq;
  irreflexive = not_itself bytes_less bytes_order;
  transitive = less_trans bytes_less bytes_order;
  apart = bytes_apart;
  equal = bytes_equal;
}

-- no number is less than itself
pub number_itself : (n : ℕ) → nat_lt n n ≡ false
number_itself n = grind (arith, nat_tests)

-- of three numbers in order the first is less than the last
pub less_numbers : (a b c : ℕ) → nat_lt a b ≡ true → nat_lt b c ≡ true → nat_lt a c ≡ true
less_numbers a b c e f = grind (arith, nat_tests)

-- of two numbers that differ one is less
pub numbers_apart : (a b : ℕ) → (a == b) ≡ false → (nat_lt a b || nat_lt b a) ≡ true
numbers_apart a b e = grind (arith, nat_tests)

-- so numbers are keys
abbrev pub number_keys : Order ℕ
number_keys = record {
  less = nat_lt;
  same = λ a b. a == b;
  irreflexive = number_itself;
  transitive = less_numbers;
  apart = numbers_apart;
  equal = eqb-true;
}
