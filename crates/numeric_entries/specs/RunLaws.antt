-- What holds of the runs of a text, and so of the key of a reading and of its numbers.
use Rattle.std.specs.Prelude.{◌≡◌, ℕ, Bool, true, false, if◌then◌else◌, List, [], ◌∷◌, ◌++◌}
use Rattle.std.specs.Char.{is_ascii_digit}
use Rattle.std.specs.List.{filter, flat_map, list_all}
use Rattle.std.proofs.Common.{◌∙◌, refl, ap, arith}
use Rattle.skk_text.specs.Characters.{code}
use Rattle.numeric_entries.specs.Numbers.{is_number, begins, goes_with, with_character, runs_of, key_piece, key_of}
use Rattle.numeric_entries.specs.Numbers.{numbers_of}

-- the digits of a number
pub number_digits : (number : List ℕ) → is_number number ≡ true → list_all is_ascii_digit number ≡ true
number_digits [] is = refl
number_digits (c ∷ number) is = is

-- a character in front of a run, of digits where it is one, begins a number where it is a digit
number-front : (c : ℕ) (run : List ℕ) → (is_ascii_digit c ≡ true → list_all is_ascii_digit run ≡ true)
    → is_number (c ∷ run) ≡ is_ascii_digit c
number-front c run digits = grind (arith, digits)

-- the first run behind a character, which is a number where that is a digit, and the others
pub record Front (c : ℕ) (runs : List (List ℕ)) : Type 0 where
  pub first : List ℕ
  pub others : List (List ℕ)
  pub are : with_character c runs ≡ first ∷ others
  pub number : is_number first ≡ is_ascii_digit c

front : (c : ℕ) (runs : List (List ℕ)) → Front c runs
front c [] = record { first = c ∷ []; others = []; are = refl; number = number-front c [] (λ digit. refl) }
front c (run ∷ runs) = by (goes_with c run) refl
  where
    by : (b : Bool) → goes_with c run ≡ b → Front c (run ∷ runs)
    by true joins =
        record { first = c ∷ run; others = runs; are = grind arith; number = grind (arith, number_digits run) }
    by false alone =
        record { first = c ∷ []; others = run ∷ runs; are = grind arith; number = number-front c [] (λ d. refl) }

-- the first run of a text that is not empty, and the others
pub first_run : (c : ℕ) (text : List ℕ) → Front c (runs_of text)
first_run c text = front c (runs_of text)

-- a digit before a text that begins with none is a run of its own
runs-first : (c : ℕ) (text : List ℕ) → is_ascii_digit c ≡ true → begins is_ascii_digit text ≡ false
    → runs_of (c ∷ text) ≡ (c ∷ []) ∷ runs_of text
runs-first c [] digit none = refl
runs-first c (next ∷ text) digit none = grind (arith, digit, none, first_run next text)

-- digits before a text that begins with none are a run
runs-number : (number text : List ℕ) → is_number number ≡ true → begins is_ascii_digit text ≡ false
    → runs_of (number ++ text) ≡ number ∷ runs_of text
runs-number [] text is none = cc
runs-number (c ∷ []) text is none = grind (arith, runs-first c text)
runs-number (c ∷ next ∷ number) text is none = grind (arith, runs-number (next ∷ number) text)

-- what a run is in a key, and what runs are numbers, by whether the first of them is one
pub piece : (run : List ℕ) (n : Bool) → is_number run ≡ n → key_piece run ≡ (if n then code "#" ∷ [] else run)
piece run n number = ap (λ b. if b then code "#" ∷ [] else run) number

-- a number at the head of a reading is a `#` in its key, and its first number
pub key-number : (number text : List ℕ) → is_number number ≡ true → begins is_ascii_digit text ≡ false
    → key_of (number ++ text) ≡ code "#" ∷ key_of text
key-number number text is none = grind (arith, runs-number number text)

pub numbers-number : (number text : List ℕ) → is_number number ≡ true → begins is_ascii_digit text ≡ false
    → numbers_of (number ++ text) ≡ number ∷ numbers_of text
numbers-number number text is none = grind (arith, runs-number number text)

-- the first digit of a number is a `#` in the key, and the digits behind it are nothing more
pub key-first : (c : ℕ) (text : List ℕ) → is_ascii_digit c ≡ true → begins is_ascii_digit text ≡ false
    → key_of (c ∷ text) ≡ code "#" ∷ key_of text
key-first c text digit none = key-number (c ∷ []) text (number-front c [] (λ d. refl) ∙ digit) none

pub key-more : (c : ℕ) (text : List ℕ) → is_ascii_digit c ≡ true → begins is_ascii_digit text ≡ true
    → key_of (c ∷ text) ≡ key_of text
key-more c [] digit more = cc
key-more c (next ∷ text) digit more =
    grind (arith, first_run next text, number-front c, number_digits)

module _ (c : ℕ) (other : is_ascii_digit c ≡ false) where
  key-joined : (runs : List (List ℕ)) → flat_map key_piece (with_character c runs) ≡ c ∷ flat_map key_piece runs
  key-joined [] = grind arith
  key-joined (run ∷ runs) = grind arith

  numbers-joined : (runs : List (List ℕ)) → filter is_number (with_character c runs) ≡ filter is_number runs
  numbers-joined [] = grind arith
  numbers-joined (run ∷ runs) = grind arith

-- any other character at the head stays in the key, and is part of no number
pub key-other : (c : ℕ) (text : List ℕ) → is_ascii_digit c ≡ false → key_of (c ∷ text) ≡ c ∷ key_of text
key-other c text other = key-joined c other (runs_of text)

pub numbers-other : (c : ℕ) (text : List ℕ) → is_ascii_digit c ≡ false → numbers_of (c ∷ text) ≡ numbers_of text
numbers-other c text other = numbers-joined c other (runs_of text)
