-- How digits are grouped from the right.
use Rattle.std.proofs.Common.{◌≡◌, ◌∙◌, ◌<◌, ◌≤◌, ◌+◌, ◌*◌, ◌-◌, ◌%◌, ◌/◌, ℕ, suc, Bool, true, false, List, [], ◌∷◌}
use Rattle.std.proofs.Common.{◌++◌, length, length-append, take, drop, refl, sym, ap, arith}
use Rattle.std.specs.Prelude.{nat_lt}
use Rattle.std.specs.List.{join_with_byte}
use Rattle.std.proofs.Math.Nat.{mul-suc}
use Rattle.std.proofs.Math.Seq.{take-append_seam, drop-append_seam}
use Rattle.std.proofs.lemmas.Bool.{ltb-true, ltb-false, lt-ltb, le-ltb}
use Rattle.numeric_entries.specs.Numerals.{groups_of, with_digit, with_commas}

-- the groups of digits: the first of them is not empty and not too long, and the others are full
pub record Grouped (size : ℕ) (digits : List ℕ) : Type 0 where
  pub first : List ℕ
  pub behind : List ℕ
  pub cut : digits ≡ first ++ behind
  pub groups : groups_of size digits ≡ first ∷ groups_of size behind
  pub some : 0 < length first
  pub fits : length first ≤ size
  pub full : length behind ≡ size * length (groups_of size behind)

grouped-digit : (size d : ℕ) (digits : List ℕ) → 0 < size → Grouped size digits → Grouped size (d ∷ digits)
grouped-digit size d digits positive old = by (nat_lt (length old.first) size) refl
  where
    by : (b : Bool) → nat_lt (length old.first) size ≡ b → Grouped size (d ∷ digits)
    by true short =
        record {
          first = d ∷ old.first;
          behind = old.behind;
          cut = ap (λ ds. d ∷ ds) old.cut;
          groups = ap (with_digit size d) old.groups ∙ rw short refl;
          some = omega arith;
          fits = omega (arith, ltb-true (length old.first) size short);
          full = old.full;
        }
    by false filled =
        let whole : length digits ≡ size * suc (length (groups_of size old.behind)) =
        omega (
          arith,
          ap length old.cut,
          length-append old.first old.behind,
          old.full,
          old.fits,
          ltb-false (length old.first) size filled,
          mul-suc size (length (groups_of size old.behind)),
        ) in
        record {
          first = d ∷ [];
          behind = digits;
          cut = refl;
          groups = ap (with_digit size d) old.groups ∙ rw filled (ap (λ gs. (d ∷ []) ∷ gs) (sym old.groups));
          some = omega arith;
          fits = omega arith;
          full = whole ∙ ap (λ gs. size * length gs) (sym old.groups);
        }

pub grouped : (size d : ℕ) (digits : List ℕ) → 0 < size → Grouped size (d ∷ digits)
grouped size d [] positive =
    record {
      first = d ∷ [];
      behind = [];
      cut = refl;
      groups = refl;
      some = omega arith;
      fits = omega arith;
      full = omega arith;
    }
grouped size d (next ∷ digits) positive =
    grouped-digit size d (next ∷ digits) positive (grouped size next digits positive)

pub grouped_some : (size : ℕ) (digits : List ℕ) → 0 < size → 0 < length digits → Grouped size digits
grouped_some size [] positive some = absurd (omega arith)
grouped_some size (d ∷ digits) positive some = grouped size d digits positive

-- the first of the groups of four, and those behind it
pub first_of_four : (digits : List ℕ) (count : ℕ) → 0 < length digits → count ≡ (length digits - 1) % 4 + 1
    → (groups_of 4 digits ≡ take count digits ∷ groups_of 4 (drop count digits))
    × (length (groups_of 4 (drop count digits)) ≡ length (drop count digits) / 4)
first_of_four digits count some is_count =
    let g = grouped_some 4 digits (omega arith) some in
    let whole : length digits ≡ length g.first + length g.behind =
    ap length g.cut ∙ length-append g.first g.behind in
    let many : length g.behind ≡ 4 * length (groups_of 4 g.behind) = g.full in
    let size : count ≡ length g.first = omega (arith, g.some, g.fits) in
    let front : take count digits ≡ g.first =
    ap (λ n. take n digits) size ∙ ap (take (length g.first)) g.cut ∙ take-append_seam g.first g.behind in
    let back : drop count digits ≡ g.behind =
    ap (λ n. drop n digits) size ∙ ap (drop (length g.first)) g.cut ∙ drop-append_seam g.first g.behind in
    (rw (front, back) g.groups, rw back (omega arith))

-- a comma stands behind a digit where those behind it are groups of three, and else none
pub comma_before : (d : ℕ) (digits : List ℕ) → (length digits ≡ 0 → ⊥) → length digits % 3 ≡ 0
    → with_commas (d ∷ digits) ≡ d ∷ 0x2C ∷ with_commas digits
comma_before d digits some whole =
    let g = grouped_some 3 digits (omega arith) (omega (arith, some)) in
    let sum : length digits ≡ length g.first + length g.behind =
    ap length g.cut ∙ length-append g.first g.behind in
    let many : length g.behind ≡ 3 * length (groups_of 3 g.behind) = g.full in
    let size : 3 ≤ length g.first = omega (arith, g.some, g.fits) in
    ap (λ gs. join_with_byte 0x2C (with_digit 3 d gs)) g.groups
    ∙ rw (le-ltb (length g.first) 3 size) (ap (λ gs. d ∷ 0x2C ∷ join_with_byte 0x2C gs) (sym g.groups))

joined : (d : ℕ) (group : List ℕ) (groups : List (List ℕ))
    → join_with_byte 0x2C ((d ∷ group) ∷ groups) ≡ d ∷ join_with_byte 0x2C (group ∷ groups)
joined d group [] = refl
joined d group (next ∷ groups) = refl

pub no_comma_before : (d : ℕ) (digits : List ℕ) → (length digits ≡ 0 → ⊥) → (length digits % 3 ≡ 0 → ⊥)
    → with_commas (d ∷ digits) ≡ d ∷ with_commas digits
no_comma_before d digits some part =
    let g = grouped_some 3 digits (omega arith) (omega (arith, some)) in
    let sum : length digits ≡ length g.first + length g.behind =
    ap length g.cut ∙ length-append g.first g.behind in
    let many : length g.behind ≡ 3 * length (groups_of 3 g.behind) = g.full in
    let size : length g.first < 3 = omega (arith, g.some, g.fits) in
    ap (λ gs. join_with_byte 0x2C (with_digit 3 d gs)) g.groups
    ∙ rw (lt-ltb (length g.first) 3 size) (joined d g.first (groups_of 3 g.behind)
    ∙ ap (λ gs. d ∷ join_with_byte 0x2C gs) (sym g.groups))
