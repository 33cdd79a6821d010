-- The order of the rows of a book by their stamps.
use Rattle.std.proofs.Common.{◌≡◌, ℕ, Bool, true, false, ◌&&◌, ◌||◌, nat_lt, nat_eq, Option, None, Some, List}
use Rattle.std.proofs.Common.{refl, ap, ◌∙◌, arith}
use Rattle.std.proofs.lemmas.Bool.{and_parts}
use Rattle.std.proofs.lemmas.Bool.Decides.{nat_tests}
use Rattle.ordered_lists.specs.OrderLaws.{not_itself}
use Rattle.ordered_lists.specs.Orders.{Order, before, sort_by, without}
use Rattle.skk_calls.specs.KeyLaws.{same_key_equal}
use Rattle.skk_calls.specs.OrderLaws.{key_order, keys_apart, row_keys}
use Rattle.skk_calls.specs.Orders.{key_less}
use Rattle.skk_calls.specs.Rows.{RowKey, Row, same_key}

-- what says how old a row is: its stamp, and among rows of one stamp its key
pub record Age : Type 0 where
  pub stamp : ℕ
  pub key : RowKey

-- how old a row is
abbrev pub age : Row → Age
age row = record { stamp = row.stamp; key = row.key }

-- one age is older than another: its stamp is less, or equal and its key greater
abbrev pub is_older : Age → Age → Bool
is_older one other = nat_lt one.stamp other.stamp || (nat_eq other.stamp one.stamp && key_less other.key one.key)

-- two ages are one
abbrev pub same_age : Age → Age → Bool
same_age one other = nat_eq one.stamp other.stamp && same_key one.key other.key

-- a stamp is before another: it is less, or equal where a test decides
abbrev stamp_before : ℕ → ℕ → Bool → Bool
stamp_before stamp other decided = nat_lt stamp other || (nat_eq other stamp && decided)

not_before : (stamp : ℕ) (decided : Bool) → decided ≡ false → stamp_before stamp stamp decided ≡ false
not_before stamp true e = cc
not_before stamp false e = grind (arith, nat_tests)

still_before : (stamp next last : ℕ) (a b c : Bool) → (a ≡ true → b ≡ true → c ≡ true)
    → stamp_before stamp next a ≡ true → stamp_before next last b ≡ true → stamp_before stamp last c ≡ true
still_before stamp next last a b true so e f = grind (arith, nat_tests)
still_before stamp next last false b false so e f = grind (arith, nat_tests)
still_before stamp next last true false false so e f = grind (arith, nat_tests)
still_before stamp next last true true false so e f = cc (so refl refl)

one_before : (stamp other : ℕ) (same a b : Bool) → (same ≡ false → (b || a) ≡ true)
    → (nat_eq stamp other && same) ≡ false → (stamp_before stamp other a || stamp_before other stamp b) ≡ true
one_before stamp other true a b so e = grind (arith, nat_tests)
one_before stamp other false true b so e = grind (arith, nat_tests)
one_before stamp other false false true so e = grind (arith, nat_tests)
one_before stamp other false false false so e = cc (so refl)

same_stamp : (stamp other : ℕ) → nat_eq stamp other ≡ true → stamp ≡ other
same_stamp stamp other e = grind (arith, nat_tests)

pub not_older : (one : Age) → is_older one one ≡ false
not_older one = not_before one.stamp (key_less one.key one.key) (not_itself key_less key_order one.key)

pub older_still : (one next last : Age) → is_older one next ≡ true → is_older next last ≡ true
    → is_older one last ≡ true
older_still one next last =
    still_before one.stamp next.stamp last.stamp (key_less next.key one.key) (key_less last.key next.key)
    (key_less last.key one.key) (λ e f. row_keys.transitive last.key next.key one.key f e)

pub one_older : (one other : Age) → same_age one other ≡ false → (is_older one other || is_older other one) ≡ true
one_older one other =
    one_before one.stamp other.stamp (same_key one.key other.key) (key_less other.key one.key)
    (key_less one.key other.key) (keys_apart one.key other.key)

pub same_age_equal : (one other : Age) → same_age one other ≡ true → one ≡ other
same_age_equal one other e =
    let parts = and_parts (nat_eq one.stamp other.stamp) (same_key one.key other.key) e in
    ap (λ (n : ℕ). record { stamp = n; key = one.key }) (same_stamp one.stamp other.stamp parts.0)
    ∙ ap (λ (k : RowKey). record { stamp = other.stamp; key = k }) (same_key_equal one.key other.key parts.1)

-- so ages are keys
abbrev pub age_keys : Order Age
age_keys = record {
  less = is_older;
  same = same_age;
  irreflexive = not_older;
  transitive = older_still;
  apart = one_older;
  equal = same_age_equal;
}

-- rows in order by their ages, the oldest first
abbrev pub oldest_first : List Row → List Row
oldest_first rows = sort_by (before age age_keys) rows

-- rows without the one that goes, where there is one
abbrev pub left_of : Option Row → List Row → List Row
left_of None rows = rows
left_of (Some row) rows = without age age_keys (age row) rows
