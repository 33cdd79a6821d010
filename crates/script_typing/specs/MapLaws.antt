-- Maps by number, one entry after another.
use Rattle.std.proofs.Common.{◌≡◌, subst, refl, ℕ, ◌<◌, ◌==◌, false, None, Some}
use Rattle.std.proofs.Common.{Equal, List, [], ◌∷◌, ◌++◌, ◌+◌, ◌≤◌, length, map, arith}
use Rattle.std.specs.BTreeMap.{insert_entry, is_at}
use Rattle.std.specs.Bool.{⊤}
use Rattle.std.specs.Cmp.{nat_cmp_total}
use Rattle.std.specs.Map.{lookup, set_value}
use Rattle.std.specs.Ordering.{nat_cmp, is_eq}
use Rattle.std.proofs.lemmas.Cmp.{tied_itself}

-- a number compares to itself as equal
itself : (number : ℕ) → nat_cmp number number ≡ Equal
itself number = tied_itself nat_cmp_total number

-- numbers that differ don't compare as equal
apart : (number other : ℕ) → (number == other) ≡ false → is_eq (nat_cmp number other) ≡ false
apart number other differ = grind arith

module _ {A : Type 0} where
  -- of two values that are put into one place the later stays
  pub put_again : (entries : List (ℕ × A)) (number : ℕ) (first later : A)
      → insert_entry nat_cmp (insert_entry nat_cmp entries number first) number later
      ≡ insert_entry nat_cmp entries number later
  put_again [] number first later = grind (arith, itself number)
  put_again (entry ∷ entries) number first later = grind (arith, itself number, put_again entries number first later)

  -- what was put is there
  pub there-put : (entries : List (ℕ × A)) (number : ℕ) (value : A)
      → lookup (is_at (nat_cmp number)) (insert_entry nat_cmp entries number value) ≡ Some value
  there-put [] number value = grind (arith, itself number)
  there-put (entry ∷ entries) number value = grind (arith, itself number, there-put entries number value)

  -- what is in another place stays
  pub there-others : (entries : List (ℕ × A)) (number : ℕ) (value : A) (other : ℕ) → (other == number) ≡ false
      → lookup (is_at (nat_cmp other)) (insert_entry nat_cmp entries number value)
      ≡ lookup (is_at (nat_cmp other)) entries
  there-others [] number value other differ = grind (arith, apart other number differ)
  there-others (entry ∷ entries) number value other differ =
      grind (arith, apart other number differ, there-others entries number value other differ)

  -- a value that is set in the place of a number is there, where there was one
  pub there-set : (entries : List (ℕ × A)) (number : ℕ) (before value : A)
      → lookup (is_at (nat_cmp number)) entries ≡ Some before
      → lookup (is_at (nat_cmp number)) (set_value (is_at (nat_cmp number)) entries value) ≡ Some value
  there-set [] number before value is = absurd (cc is)
  there-set (entry ∷ entries) number before value is = grind (arith, there-set entries number before value)

  -- and what is in another place stays
  pub there-unset : (entries : List (ℕ × A)) (number : ℕ) (value : A) (other : ℕ) → (other == number) ≡ false
      → lookup (is_at (nat_cmp other)) (set_value (is_at (nat_cmp number)) entries value)
      ≡ lookup (is_at (nat_cmp other)) entries
  there-unset [] number value other differ = refl
  there-unset (entry ∷ entries) number value other differ =
      grind (arith, apart other number differ, there-unset entries number value other differ)

  -- the keys of a map are greater than a number
  abbrev pub AreAbove : ℕ → List (ℕ × A) → Type 0
  AreAbove number [] = ⊤
  AreAbove number (entry ∷ entries) = (number < entry.0) × AreAbove number entries

  -- the keys of a map ascend
  abbrev pub Ascend : List (ℕ × A) → Type 0
  Ascend [] = ⊤
  Ascend (entry ∷ entries) = AreAbove entry.0 entries × Ascend entries

  -- what is above a number is above each less one
  above-less : (low number : ℕ) (entries : List (ℕ × A)) → low < number → AreAbove number entries
      → AreAbove low entries
  above-less low number [] less above = tt
  above-less low number (entry ∷ entries) less above =
      (omega (arith, less, above.0), above-less low number entries less above.1)

  -- keys stay above a number with one more that is
  above-put : (low : ℕ) (entries : List (ℕ × A)) (number : ℕ) (value : A) → low < number → AreAbove low entries
      → AreAbove low (insert_entry nat_cmp entries number value)
  above-put low [] number value less above = (less, tt)
  above-put low (entry ∷ entries) number value less above =
      grind (arith, above-put low entries number value less above.1)

  -- keys that ascend do so with one more
  pub ascend-put : (entries : List (ℕ × A)) (number : ℕ) (value : A) → Ascend entries
      → Ascend (insert_entry nat_cmp entries number value)
  ascend-put [] number value ascend = (tt, tt)
  ascend-put (entry ∷ entries) number value ascend =
      grind (
        arith,
        above-less number entry.0 entries,
        above-put entry.0 entries number value,
        ascend-put entries number value ascend.1,
      )

  -- a value is set nowhere in the place of a number that is not there
  pub unset_none : (entries : List (ℕ × A)) (number : ℕ) (value : A)
      → lookup (is_at (nat_cmp number)) entries ≡ None
      → set_value (is_at (nat_cmp number)) entries value ≡ entries
  unset_none [] number value none = refl
  unset_none (entry ∷ entries) number value none = grind (arith, unset_none entries number value)

  -- the keys of a map are less than a number
  abbrev pub AreBelow : ℕ → List (ℕ × A) → Type 0
  AreBelow number [] = ⊤
  AreBelow number (entry ∷ entries) = (entry.0 < number) × AreBelow number entries

  -- keys stay below a number with one more that is
  pub below-put : (high : ℕ) (entries : List (ℕ × A)) (number : ℕ) (value : A) → number < high
      → AreBelow high entries → AreBelow high (insert_entry nat_cmp entries number value)
  below-put high [] number value less below = (less, tt)
  below-put high (entry ∷ entries) number value less below =
      grind (arith, below-put high entries number value less below.1)

  -- keys that ascend between two numbers are not more than lie there
  between-few : (low high : ℕ) (entries : List (ℕ × A)) → low < high → AreAbove low entries → Ascend entries
      → AreBelow high entries → length entries + low < high
  between-few low high [] less above ascend below = omega (arith, less)
  between-few low high (entry ∷ entries) less above ascend below =
      omega (arith, above.0, between-few entry.0 high entries below.0 ascend.0 ascend.1 below.1)

  pub ascend-few : (high : ℕ) (entries : List (ℕ × A)) → Ascend entries → AreBelow high entries
      → length entries ≤ high
  ascend-few high [] ascend below = omega arith
  ascend-few high (entry ∷ entries) ascend below =
      omega (arith, between-few entry.0 high entries below.0 ascend.0 ascend.1 below.1)

  -- a number that is above all keys is put behind them
  pub put-last : (entries : List (ℕ × A)) (number : ℕ) (value : A) → AreBelow number entries
      → insert_entry nat_cmp entries number value ≡ entries ++ (number, value) ∷ []
  put-last [] number value below = refl
  put-last (entry ∷ entries) number value below = grind (arith, put-last entries number value below.1)

-- the entries of a map with what a function makes of their numbers
abbrev pub by_number : {A B : Type 0} → (ℕ → B) → List (ℕ × A) → List (ℕ × B)
by_number f entries = map (λ entry. (entry.0, f entry.0)) entries

module _ {A B : Type 0} (f g : ℕ → B) (number : ℕ) (same : (other : ℕ) → (other == number) ≡ false → g other ≡ f other)
  where
    -- what is above a number is made the same
    pub above-same : (entries : List (ℕ × A)) → AreAbove number entries → by_number f entries ≡ by_number g entries
    above-same [] above = refl
    above-same (entry ∷ entries) above = grind (arith, same entry.0, above-same entries above.1)

    -- what is made of the numbers of a map, with one put into its place, is made of the map with that number
    pub put-by_number : (entries : List (ℕ × A)) (value : A) → Ascend entries
        → insert_entry nat_cmp (by_number f entries) number (g number)
        ≡ by_number g (insert_entry nat_cmp entries number value)
    put-by_number [] value ascend = refl
    put-by_number (entry ∷ entries) value ascend =
        grind (
          arith,
          same entry.0,
          λ (less : number < entry.0). above-same entries (above-less number entry.0 entries less ascend.0),
          λ (is : entry.0 ≡ number). above-same entries (subst (λ n. AreAbove n entries) is ascend.0),
          put-by_number entries value ascend.1,
        )
