-- How the digits of a number are written: in groups from the right, with commas, and in kanji with places.
use Rattle.std.specs.Prelude.{ℕ, suc, zero, Bool, true, false, ◌-◌, ◌&&◌, ◌==◌, not, nat_lt, nat_le, if◌then◌else◌}
use Rattle.std.specs.Prelude.{List, [], ◌∷◌, ◌++◌, codes, length, slice_get, slice_index}
use Rattle.std.specs.List.{join_with_byte, list_all}
use Rattle.std.specs.Option.{option_to_list}
use Rattle.skk_text.specs.Characters.{code}
use Rattle.skk_text.specs.Kana.{wide}
use Rattle.numeric_entries.specs.declared.numerals.Numerals.{Numerals}

-- the kanji of everyday numbers
abbrev pub everyday : Numerals
everyday = record {
  digits = codes "〇一二三四五六七八九";
  places = codes "十百千";
  groups = codes "万億兆";
  writes_one = false;
}

-- the kanji of legal documents (大字), which are hard to alter
abbrev pub formal : Numerals
formal = record {
  digits = codes "零壱弐参四伍六七八九";
  places = codes "拾百阡";
  groups = codes "萬億兆";
  writes_one = true;
}

-- the kanji of a digit
abbrev pub numeral : Numerals → ℕ → ℕ
numeral numerals digit = slice_index numerals.digits (digit - code "0")

-- groups of so many digits with a digit in front, which joins the first of them where that is not full
abbrev pub with_digit : ℕ → ℕ → List (List ℕ) → List (List ℕ)
with_digit size digit [] = (digit ∷ []) ∷ []
with_digit size digit (group ∷ groups) =
    if nat_lt (length group) size then (digit ∷ group) ∷ groups else (digit ∷ []) ∷ group ∷ groups

-- digits in groups of so many from the right, of which the first may have less
abbrev pub groups_of : ℕ → List ℕ → List (List ℕ)
groups_of size [] = []
groups_of size (digit ∷ digits) = with_digit size digit (groups_of size digits)

-- the digits with a comma between each two groups of three from the right
abbrev pub with_commas : List ℕ → List ℕ
with_commas digits = join_with_byte (code ",") (groups_of 3 digits)

-- each digit is a zero
abbrev pub is_zero : List ℕ → Bool
is_zero digits = list_all (λ digit. digit == code "0") digits

-- the name of a place, counted from the right: the last one has none
abbrev pub name_of : List ℕ → ℕ → List ℕ
name_of names zero = []
name_of names (suc place) = option_to_list (slice_get names place)

-- the kanji before the name of a place: none for a one before a name, where it is left out
abbrev pub before_name : Numerals → ℕ → ℕ → List ℕ
before_name numerals digit zero = numeral numerals digit ∷ []
before_name numerals digit (suc place) =
    if digit == code "1" && not numerals.writes_one then [] else numeral numerals digit ∷ []

-- a digit in kanji with the name of its place, or nothing where it is zero
abbrev pub digit_in_place : Numerals → ℕ → ℕ → List ℕ
digit_in_place numerals digit place =
    if digit == code "0" then [] else before_name numerals digit place ++ name_of numerals.places place

-- the digits of a group, each in the place of so many digits as stand behind it
abbrev pub digits_in_places : Numerals → List ℕ → List ℕ
digits_in_places numerals [] = []
digits_in_places numerals (digit ∷ digits) =
    digit_in_place numerals digit (length digits) ++ digits_in_places numerals digits

-- a group in kanji with the name of its place, or nothing where it is zero
abbrev pub group_named : Numerals → List ℕ → ℕ → List ℕ
group_named numerals group place =
    if is_zero group then [] else digits_in_places numerals group ++ name_of numerals.groups place

-- groups in kanji, each in the place of so many groups as stand behind it
abbrev pub groups_named : Numerals → List (List ℕ) → List ℕ
groups_named numerals [] = []
groups_named numerals (group ∷ groups) = group_named numerals group (length groups) ++ groups_named numerals groups

-- a number in kanji with places: zero is the kanji of that digit, and a number of more than 16 digits stays
abbrev pub in_places : Numerals → List ℕ → List ℕ
in_places numerals number =
    if nat_lt 16 (length number) then number
    else if is_zero number then numeral numerals (code "0") ∷ []
    else groups_named numerals (groups_of 4 number)

-- a digit is from 1 to 9
abbrev pub is_counting_digit : ℕ → Bool
is_counting_digit c = nat_le (code "1") c && nat_le c (code "9")

-- a square of a shogi board: of two digits from 1 to 9 the first is wide and the second in kanji; any other number
-- stays
abbrev pub on_board : List ℕ → List ℕ
on_board (file ∷ rank ∷ []) =
    if is_counting_digit file && is_counting_digit rank then wide file ∷ numeral everyday rank ∷ []
    else file ∷ rank ∷ []
on_board number = number
