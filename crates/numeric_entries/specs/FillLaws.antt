-- A word that is filled with numbers, and with words that are not empty, is not empty.
use Rattle.std.specs.Prelude.{◌≡◌, ◌<◌, ◌≤◌, ℕ, zero, suc, Bool, true, false, ◌==◌, not, nat_le}
use Rattle.std.specs.Prelude.{List, [], ◌∷◌, ◌++◌, length, map, slice_get}
use Rattle.std.specs.List.{list_all}
use Rattle.std.specs.Option.{option_to_list}
use Rattle.std.proofs.Common.{refl, arith}
use Rattle.skk_text.specs.Characters.{code}
use Rattle.skk_text.specs.Kana.{wide}
use Rattle.skk_text.specs.Lists.{is_empty}
use Rattle.numeric_entries.specs.declared.form.NumberForm.{NumberForm}
use Rattle.numeric_entries.specs.declared.form.NumberForm.TheVariants.{Digits, Wide, Kanji, Places, Lookup, Formal}
use Rattle.numeric_entries.specs.declared.form.NumberForm.TheVariants.{Commas}
use Rattle.numeric_entries.specs.declared.form.NumberForm.TheVariants.{Square}
use Rattle.numeric_entries.specs.declared.numerals.Numerals.{Numerals}
use Rattle.numeric_entries.specs.Forms.{Part, stays, stands, filled_parts, fill, form_text, parts_of}
use Rattle.numeric_entries.specs.Numbers.{are_numbers, is_number}
use Rattle.numeric_entries.specs.Numerals.{before_name, digit_in_place, digits_in_places, everyday, formal, group_named}
use Rattle.numeric_entries.specs.Numerals.{groups_named, groups_of, in_places, is_zero, name_of}
use Rattle.numeric_entries.specs.Numerals.{numeral, on_board, with_commas}
use Rattle.std.proofs.lemmas.Bool.Decides.{nat_tests}

-- a list has an item
abbrev pub is_nonempty : {X : Type 0} → List X → Bool
is_nonempty xs = not (is_empty xs)

-- of two texts behind one another one is not empty
some_before : (text behind : List ℕ) → is_nonempty text ≡ true → is_nonempty (text ++ behind) ≡ true
some_before [] behind some = cc
some_before (c ∷ text) behind some = refl

some_behind : (text behind : List ℕ) → is_nonempty behind ≡ true → is_nonempty (text ++ behind) ≡ true
some_behind [] behind some = some
some_behind (c ∷ text) behind some = refl

-- a place that has a name is written with it
name_some : (names : List ℕ) (place : ℕ) → place < length names
    → is_nonempty (option_to_list (slice_get names place)) ≡ true
name_some [] place within = absurd (omega arith)
name_some (name ∷ names) zero within = refl
name_some (name ∷ names) (suc place) within = name_some names place (omega arith)

-- numerals with the names of three places
module _ (numerals : Numerals) (named : length numerals.places ≡ 3) where
  -- a digit that is not zero is written
  digit_some : (digit place : ℕ) → place ≤ 3 → (digit == code "0") ≡ false
      → is_nonempty (digit_in_place numerals digit place) ≡ true
  digit_some digit zero within some = grind (arith, some)
  digit_some digit (suc place) within some =
      grind (
        arith,
        some,
        some_behind (before_name numerals digit (suc place)) (name_of numerals.places (suc place)),
        name_some numerals.places place,
      )

  -- a group that is not zero is written
  digits_some : (group : List ℕ) → length group ≤ 4 → is_zero group ≡ false
      → is_nonempty (digits_in_places numerals group) ≡ true
  digits_some [] short some = cc
  digits_some (digit ∷ group) short some =
      grind (
        arith,
        digit_some digit (length group),
        digits_some group,
        some_behind (digit_in_place numerals digit (length group)) (digits_in_places numerals group),
        some_before (digit_in_place numerals digit (length group)) (digits_in_places numerals group),
      )

  -- groups that are not all zero are written
  groups_some : (groups : List (List ℕ)) → list_all (λ group. nat_le (length group) 4) groups ≡ true
      → list_all is_zero groups ≡ false → is_nonempty (groups_named numerals groups) ≡ true
  groups_some [] short some = cc
  groups_some (group ∷ groups) short some =
      grind (
        arith,
        nat_tests,
        digits_some group,
        groups_some groups,
        some_behind (group_named numerals group (length groups)) (groups_named numerals groups),
        some_before (group_named numerals group (length groups)) (groups_named numerals groups),
        some_before (digits_in_places numerals group) (name_of numerals.groups (length groups)),
      )

-- groups of digits are not too long, and all zero where the digits are
short_groups : (size : ℕ) (digits : List ℕ) → 0 < size
    → list_all (λ group. nat_le (length group) size) (groups_of size digits) ≡ true
short_groups size [] positive = refl
short_groups size (digit ∷ digits) positive = grind (arith, nat_tests, short_groups size digits)

zero_groups : (size : ℕ) (digits : List ℕ) → list_all is_zero (groups_of size digits) ≡ is_zero digits
zero_groups size [] = refl
zero_groups size (digit ∷ digits) = grind (arith, zero_groups size digits)

-- a number is written
number_some : (number : List ℕ) → is_number number ≡ true → is_nonempty number ≡ true
number_some [] is = cc
number_some (digit ∷ digits) is = refl

map_some : (f : ℕ → ℕ) (number : List ℕ) → is_number number ≡ true → is_nonempty (map f number) ≡ true
map_some f [] is = cc
map_some f (digit ∷ digits) is = refl

places_some : (numerals : Numerals) (number : List ℕ) → length numerals.places ≡ 3 → is_number number ≡ true
    → is_nonempty (in_places numerals number) ≡ true
places_some numerals number named is =
    grind (
      arith,
      number_some number,
      groups_some numerals named (groups_of 4 number),
      short_groups 4 number,
      zero_groups 4 number,
    )

commas_some : (number : List ℕ) → is_number number ≡ true → is_nonempty (with_commas number) ≡ true
commas_some [] is = cc
commas_some (digit ∷ digits) is = grind arith

board_some : (number : List ℕ) → is_number number ≡ true → is_nonempty (on_board number) ≡ true
board_some [] is = cc
board_some (file ∷ []) is = refl
board_some (file ∷ rank ∷ []) is = grind arith
board_some (file ∷ rank ∷ next ∷ digits) is = refl

form_some : (form : NumberForm) (number first : List ℕ) → is_number number ≡ true → is_nonempty first ≡ true
    → is_nonempty (form_text form number first) ≡ true
form_some Digits number first is some = number_some number is
form_some Wide number first is some = map_some wide number is
form_some Kanji number first is some = map_some (numeral everyday) number is
form_some Places number first is some = places_some everyday number refl is
form_some Lookup number first is some = some
form_some Formal number first is some = places_some formal number refl is
form_some Commas number first is some = commas_some number is
form_some Square number first is some = board_some number is

-- parts that are filled are written
parts_some : (parts : List Part) (numbers firsts : List (List ℕ)) → is_nonempty parts ≡ true
    → are_numbers numbers ≡ true → list_all is_nonempty firsts ≡ true
    → is_nonempty (filled_parts parts numbers firsts) ≡ true
parts_some [] numbers firsts some are all = cc
parts_some (stays c ∷ parts) numbers firsts some are all = refl
parts_some (stands c form ∷ parts) [] firsts some are all = refl
parts_some (stands c form ∷ parts) (number ∷ numbers) [] some are all = refl
parts_some (stands c form ∷ parts) (number ∷ numbers) (first ∷ firsts) some are all =
    grind (
      arith,
      form_some form number first,
      some_before (form_text form number first) (filled_parts parts numbers firsts),
    )

-- a word that is not empty has parts
word_parts : (word : List ℕ) → is_nonempty word ≡ true → is_nonempty (parts_of word) ≡ true
word_parts [] some = cc
word_parts (c ∷ []) some = refl
word_parts (c ∷ next ∷ word) some = grind arith

-- a word that is not empty is not empty where it is filled with numbers, and with texts that are not empty
pub fill_some : (word : List ℕ) (numbers firsts : List (List ℕ)) → is_nonempty word ≡ true → are_numbers numbers ≡ true
    → list_all is_nonempty firsts ≡ true → is_nonempty (fill word numbers firsts) ≡ true
fill_some word numbers firsts some are all = parts_some (parts_of word) numbers firsts (word_parts word some) are all
