-- Forms: what stands for a number in a word, and what it is filled with.
use Rattle.std.specs.Prelude.{ℕ, Bool, true, false, ◌==◌, if◌then◌else◌, Option, None, Some, List, [], ◌∷◌, ◌++◌}
use Rattle.std.specs.Prelude.{◌≡◌, map}
use Rattle.std.specs.List.{list_any}
use Rattle.std.specs.Option.{option_map_or}
use Rattle.skk_text.specs.Characters.{code}
use Rattle.skk_text.specs.Kana.{wide}
use Rattle.numeric_entries.specs.Numerals.{everyday, formal, numeral, in_places, with_commas, on_board}
use Rattle.numeric_entries.specs.declared.form.NumberForm.{NumberForm}
use Rattle.numeric_entries.specs.declared.form.NumberForm.TheVariants.{Digits, Wide, Kanji, Places, Lookup, Formal}
use Rattle.numeric_entries.specs.declared.form.NumberForm.TheVariants.{Commas}
use Rattle.numeric_entries.specs.declared.form.NumberForm.TheVariants.{Square}

-- the form that a character names behind a `#`
abbrev pub form_named : ℕ → Option NumberForm
form_named c =
    if c == code "0" then Some Digits
    else if c == code "1" then Some Wide
    else if c == code "2" then Some Kanji
    else if c == code "3" then Some Places
    else if c == code "4" then Some Lookup
    else if c == code "5" then Some Formal
    else if c == code "8" then Some Commas
    else if c == code "9" then Some Square
    else None

-- what a form writes for a number, and for the first word that was found for it
abbrev pub form_text : NumberForm → List ℕ → List ℕ → List ℕ
form_text Digits number first = number
form_text Wide number first = map wide number
form_text Kanji number first = map (numeral everyday) number
form_text Places number first = in_places everyday number
form_text Lookup number first = first
form_text Formal number first = in_places formal number
form_text Commas number first = with_commas number
form_text Square number first = on_board number

-- a part of a word: a character that stays, or a form with the character that names it
pub data Part : Type 0 where
  stays : ℕ → Part
  stands : ℕ → NumberForm → Part

-- the form that two characters are: a `#`, and one that names a form
abbrev pub form_of : ℕ → ℕ → Option NumberForm
form_of c next = if c == code "#" then form_named next else None

-- the parts of a word, from left to right
abbrev pub parts_of : List ℕ → List Part
parts_of [] = []
parts_of (c ∷ []) = stays c ∷ []
parts_of (c ∷ next ∷ word) =
    option_map_or (λ form. stands next form ∷ parts_of word) (form_of c next) (stays c ∷ parts_of (next ∷ word))

-- parts that are filled: each form is written for the next number, and stays where none is left
abbrev pub filled_parts : List Part → List (List ℕ) → List (List ℕ) → List ℕ
filled_parts [] numbers firsts = []
filled_parts (stays c ∷ parts) numbers firsts = c ∷ filled_parts parts numbers firsts
filled_parts (stands c form ∷ parts) (number ∷ numbers) (first ∷ firsts) =
    form_text form number first ++ filled_parts parts numbers firsts
filled_parts (stands c form ∷ parts) numbers firsts = code "#" ∷ c ∷ filled_parts parts numbers firsts

-- a word that is filled with numbers, and with the first words that were found for them
abbrev pub fill : List ℕ → List (List ℕ) → List (List ℕ) → List ℕ
fill word numbers firsts = filled_parts (parts_of word) numbers firsts

-- a part is a form that stands for a word that is first to be looked up
abbrev pub is_lookup : Part → Bool
is_lookup (stays c) = false
is_lookup (stands c Lookup) = true
is_lookup (stands c form) = false

-- a word has a form that stands for a word that is first to be looked up
abbrev pub asks_lookup : List ℕ → Bool
asks_lookup word = list_any is_lookup (parts_of word)

-- a text holds a piece
abbrev pub Holds : List ℕ → List ℕ → Type 0
Holds piece text = (before : List ℕ) × (behind : List ℕ) × (text ≡ before ++ (piece ++ behind))
