-- Numbers in readings: the key of a reading in which a `#` stands for each number, and the numbers.
use Rattle.std.specs.Prelude.{ℕ, Bool, false, ◌&&◌, not, if◌then◌else◌, Option, None, Some, List, [], ◌∷◌}
use Rattle.std.specs.Char.{is_ascii_digit}
use Rattle.std.specs.List.{filter, flat_map, list_all, list_any}
use Rattle.skk_text.specs.Characters.{code}
use Rattle.skk_text.specs.Lists.{is_empty}

-- a text is a number: one or more ASCII digits, and nothing else
abbrev pub is_number : List ℕ → Bool
is_number text = not (is_empty text) && list_all is_ascii_digit text

-- each of the texts is a number
abbrev pub are_numbers : List (List ℕ) → Bool
are_numbers texts = list_all is_number texts

-- a text begins with a character that passes a test
abbrev pub begins : (ℕ → Bool) → List ℕ → Bool
begins test [] = false
begins test (c ∷ text) = test c

-- a character goes with a run: a digit with digits, and any other with others
abbrev pub goes_with : ℕ → List ℕ → Bool
goes_with c run = if is_ascii_digit c then is_number run else not (is_number run)

-- runs with a character in front, which joins the first of them where it goes with it
abbrev pub with_character : ℕ → List (List ℕ) → List (List ℕ)
with_character c [] = (c ∷ []) ∷ []
with_character c (run ∷ runs) = if goes_with c run then (c ∷ run) ∷ runs else (c ∷ []) ∷ run ∷ runs

-- the runs of a text, in order: its longest pieces of digits alone and of other characters alone
abbrev pub runs_of : List ℕ → List (List ℕ)
runs_of [] = []
runs_of (c ∷ text) = with_character c (runs_of text)

-- what stands for a run in a key: a `#` for a number, and any other run for itself
abbrev pub key_piece : List ℕ → List ℕ
key_piece run = if is_number run then code "#" ∷ [] else run

-- a reading with a `#` in the place of each number
abbrev pub key_of : List ℕ → List ℕ
key_of reading = flat_map key_piece (runs_of reading)

-- the numbers of a reading, in order
abbrev pub numbers_of : List ℕ → List (List ℕ)
numbers_of reading = filter is_number (runs_of reading)

-- a reading with a `#` in the place of each number, and the numbers
pub record NumberKey : Type 0 where
  pub key : List ℕ
  pub numbers : List (List ℕ)

-- the key and the numbers of a reading, where it holds a digit
abbrev pub number_key : List ℕ → Option NumberKey
number_key reading =
    if list_any is_ascii_digit reading
    then Some (record { key = key_of reading; numbers = numbers_of reading })
    else None
