-- How an item says words: as they are, or in strings of the two forms in Lisp that a dictionary line may hold.
use Rattle.std.specs.Prelude.{◌≡◌, ◌⊎◌, ℕ, ◌+◌, ◌-◌, ◌*◌, ◌==◌, ◌&&◌, ◌||◌, nat_le, nat_lt, if◌then◌else◌, Option, None}
use Rattle.std.specs.Prelude.{Some, List, [], ◌∷◌, codes}
use Rattle.std.specs.Option.{unwrap_or}
use Rattle.exact_readers.specs.Formats.{Format, one_as, literal, behind, before, both, mapped, checked, either}
use Rattle.exact_readers.specs.Formats.{ended_by, whole}

-- Strings

-- a character that stands for itself in a string: neither `"` nor `\`
abbrev pub plain : ℕ → Option ℕ
plain c = if c == 0x22 || c == 0x5C then None else Some c

-- what a character behind a backslash stands for
abbrev pub escape : ℕ → Option ℕ
escape c =
    if c == 0x22 || c == 0x5C then Some c
    else if c == 0x6E then Some 10
    else if c == 0x72 then Some 13
    else None

-- the value of a digit below a bound
abbrev pub digit_below : ℕ → ℕ → Option ℕ
digit_below bound c = if nat_le 0x30 c && nat_lt c (0x30 + bound) then Some (c - 0x30) else None

-- the number of three octal digits
abbrev pub octal_number : ℕ × (ℕ × ℕ) → ℕ
octal_number digits = digits.0 * 64 + digits.1.0 * 8 + digits.1.1

-- three octal digits of a number below 128
abbrev pub octal : Format ℕ ℕ
octal = mapped octal_number (both (one_as (digit_below 2)) (both (one_as (digit_below 8)) (one_as (digit_below 8))))

-- what stands behind a backslash
abbrev pub escaped : Format ℕ ℕ
escaped = either (one_as escape) octal

-- a character of a string: itself unless it is `"` or `\`, one of four escapes, or a backslash and three octal digits
abbrev pub string_character : Format ℕ ℕ
string_character = either (one_as plain) (behind (codes "\\") escaped)

-- the characters of a string, and the double quote that closes it
abbrev pub string_behind : Format ℕ (List ℕ)
string_behind = ended_by (literal (codes "\"")) string_character

-- The two forms

-- the form `(concat "..")` of one string, which says its word
abbrev pub quoted_word : Format ℕ (List ℕ)
quoted_word = behind (codes "(concat \"") (before string_behind (codes ")"))

-- a string of a mark, behind its space
abbrev pub marked_string : Format ℕ (List ℕ)
marked_string = behind (codes " \"") string_behind

-- a list that has something
abbrev pub if_some : {X : Type 0} → List X → Option (List X)
if_some [] = None
if_some (x ∷ xs) = Some (x ∷ xs)

-- strings, and the parenthesis that closes their mark
abbrev pub closed_strings : Format ℕ (List (List ℕ))
closed_strings = ended_by (literal (codes ")")) marked_string

-- one string or more
abbrev pub marked_strings : Format ℕ (List (List ℕ))
marked_strings = checked if_some closed_strings

-- the form `(skk-ignore-dic-word "..")` of one string or more, each behind one space, whose words it marks
abbrev pub marked_words : Format ℕ (List (List ℕ))
marked_words = behind (codes "(skk-ignore-dic-word") marked_strings

-- Texts

-- the text says the word that it quotes, or itself where it quotes none
abbrev pub SaysWord : List ℕ → List ℕ → Type 0
SaysWord text word =
    quoted_word.Spells word text ⊎ ((word ≡ text) × ((other : List ℕ) → quoted_word.Spells other text → ⊥))

-- the word that is read of a text
abbrev pub said : List ℕ → List ℕ
said text = unwrap_or (whole quoted_word text) text
