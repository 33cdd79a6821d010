-- Where rows stand, and the order of these places.
use Rattle.std.specs.Prelude.{◌≡◌, ◌++◌, ◌==◌, ◌&&◌, ℕ, Bool, true, cond, encode_utf8_all}
use Rattle.std.specs.Cmp.{IsTotalOrder, nat_cmp_total, on_total, then_total, unsigned_tied}
use Rattle.std.specs.Hash.{HashWrites}
use Rattle.std.specs.Hash as fed
use Rattle.std.specs.Ordering.{is_eq, nat_cmp, ordering_reverse, ordering_then}
use Rattle.std.proofs.Common.{Ordering, Less, Equal, Greater, refl, sym, ap, ◌∙◌, arith}
use Rattle.std.proofs.lemmas.Bool.{and_parts, eqb-true}
use Rattle.skk_calls.specs.KeyLaws.{same_key_equal}
use Rattle.skk_calls.specs.OrderLaws.{row_keys}
use Rattle.skk_calls.specs.Orders.{key_less}
use Rattle.skk_calls.specs.Rows.{RowKey, same_key}
use Rattle.learned_store.specs.declared.row_place.RowPlace.{RowPlace}

-- which of two keys is the lesser
abbrev pub key_cmp : RowKey → RowKey → Ordering
key_cmp key other = cond (key_less key other) Less (cond (same_key key other) Equal Greater)

-- which of two places comes first: by the number of the book, and then by the key
abbrev pub place_cmp : RowPlace → RowPlace → Ordering
place_cmp place other = ordering_then (nat_cmp place.book other.book) (key_cmp place.key other.key)

-- the other way round the order is the other one
key_turned : (key other : RowKey) → key_cmp key other ≡ ordering_reverse (key_cmp other key)
key_turned key other =
    grind (
      arith,
      row_keys.apart key other,
      row_keys.equal key other,
      row_keys.equal other key,
      row_keys.irreflexive key,
      row_keys.transitive key other key,
    )

-- a key before one that is before another is before that
key_chain : (key next last : RowKey) → key_cmp key next ≡ Less → key_cmp next last ≡ Less → key_cmp key last ≡ Less
key_chain key next last e f = grind (arith, row_keys.transitive key next last)

-- keys that stand at one place stand to others alike
key_alike : (key next last : RowKey) → key_cmp key next ≡ Equal → key_cmp key last ≡ key_cmp next last
key_alike key next last e = grind (arith, row_keys.equal key next)

-- that is an order
key_total : IsTotalOrder key_cmp
key_total = record { antisymm = key_turned; trans = key_chain; congr = key_alike }

-- and so is this
pub place_total : IsTotalOrder place_cmp
place_total =
    then_total (on_total (λ (place : RowPlace). place.book) nat_cmp_total)
    (on_total (λ (place : RowPlace). place.key) key_total)

-- Places that are one

-- two answers are equal where both are
eq_then : (first last : Ordering) → is_eq (ordering_then first last) ≡ (is_eq first && is_eq last)
eq_then Less last = refl
eq_then Equal last = refl
eq_then Greater last = refl

key_tied : (key other : RowKey) → is_eq (key_cmp key other) ≡ same_key key other
key_tied key other = grind (arith, row_keys.equal key other, row_keys.irreflexive key)

-- two places are one where their books and keys are
pub place_tied : (place other : RowPlace)
    → is_eq (place_cmp place other) ≡ (place.book == other.book && same_key place.key other.key)
place_tied place other =
    eq_then (nat_cmp place.book other.book) (key_cmp place.key other.key)
    ∙ ap (λ (b : Bool). b && is_eq (key_cmp place.key other.key)) (unsigned_tied place.book other.book)
    ∙ ap (λ (b : Bool). place.book == other.book && b) (key_tied place.key other.key)

-- what a place is hashed by: its book and its reading
abbrev pub place_writes : RowPlace → HashWrites
place_writes place = fed.u16 place.book ++ fed.str (encode_utf8_all place.key.reading)

-- places that are one are hashed alike
pub place_alike : (place other : RowPlace) → is_eq (place_cmp place other) ≡ true
    → place_writes place ≡ place_writes other
place_alike place other same =
    let parts = and_parts (place.book == other.book) (same_key place.key other.key)
    (sym (place_tied place other) ∙ same) in
    ap (λ (number : ℕ). fed.u16 number ++ fed.str (encode_utf8_all place.key.reading))
    (eqb-true place.book other.book parts.0)
    ∙ ap (λ (key : RowKey). fed.u16 other.book ++ fed.str (encode_utf8_all key.reading))
    (same_key_equal place.key other.key parts.1)
