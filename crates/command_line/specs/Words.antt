-- What a word of the command line can be: a name, what a server is asked for, a number, or two parts around a `=`.
use Rattle.std.specs.Prelude.{⊤, ◌<◌, ℕ, Bool, false, not, ◌&&◌, ◌||◌, ◌==◌, nat_le, if◌then◌else◌, Option, Some, None}
use Rattle.std.specs.Prelude.{List, [], ◌∷◌, ◌++◌, length, map, encode_utf8_all}
use Rattle.std.specs.Fmt.{decimal}
use Rattle.std.specs.List.{list_all}
use Rattle.std.specs.Option.{option_map, option_and_then}
use Rattle.std.specs.Str.{bytes_eq}
use Rattle.std.specs.Str.Parse.{digits_value}
use Rattle.skk_text.specs.Characters.{code, carriage_return}
use Rattle.skk_text.specs.Lines.{line_feed, with_first}
use Rattle.skk_calls.specs.BookLists.{book_limit, is_book_list}

-- whether a word may be a file's name: it is not empty and does not begin with `-`
abbrev pub is_name : List ℕ → Bool
is_name [] = false
is_name (first ∷ rest) = not (first == code "-")

-- a byte ends what a server is asked for: a space, CR or LF
abbrev pub ends_asked : ℕ → Bool
ends_asked byte = byte == code " " || (byte == carriage_return || byte == line_feed)

-- whether bytes can be asked of a server: they are 1 to 255, and none of them ends what is asked
abbrev pub can_be_asked : List ℕ → Bool
can_be_asked bytes =
    nat_le 1 (length bytes) && (nat_le (length bytes) 255 && list_all (λ byte. not (ends_asked byte)) bytes)

-- whether a word is what a server can be asked for: it may be a name, and its bytes can be asked
abbrev pub is_askable : List ℕ → Bool
is_askable word = is_name word && can_be_asked (encode_utf8_all word)

-- the number that a word writes in decimal, without a sign and without leading zeros, where it is within the bounds
abbrev pub number_within : ℕ → ℕ → List ℕ → Option ℕ
number_within least most word =
    let number = digits_value 10 word in
    if bytes_eq word (decimal number) && (nat_le least number && nat_le number most) then Some number else None

-- two parts, the first of them with a character before it
abbrev pub with_character : ℕ → List ℕ × List ℕ → List ℕ × List ℕ
with_character character parts = (character ∷ parts.0, parts.1)

-- what stands before and behind the first of a character in a word, where it has one
abbrev pub cut : ℕ → List ℕ → Option (List ℕ × List ℕ)
cut at [] = None
cut at (character ∷ rest) =
    if character == at then Some ([], rest) else option_map (with_character character) (cut at rest)

-- the parts of a word between its commas, of which there is one more than of these
abbrev pub parts_of : List ℕ → List (List ℕ)
parts_of [] = [] ∷ []
parts_of (character ∷ rest) =
    if character == code "," then [] ∷ parts_of rest else with_first character (parts_of rest)

-- numbers, and others behind them, where there are any
abbrev pub with_front : List ℕ → Option (List ℕ) → Option (List ℕ)
with_front numbers others = option_map (λ more. numbers ++ more) others

-- parts with a comma between
abbrev pub joined_parts : List (List ℕ) → List ℕ
joined_parts [] = []
joined_parts (part ∷ []) = part
joined_parts (part ∷ next ∷ parts) = part ++ code "," ∷ joined_parts (next ∷ parts)

-- numbers in decimal, with a comma between
abbrev pub with_commas : List ℕ → List ℕ
with_commas numbers = joined_parts (map decimal numbers)

-- the numbers of books that parts write, where each of them writes one
abbrev pub numbers_of : List (List ℕ) → Option (List ℕ)
numbers_of [] = Some []
numbers_of (part ∷ parts) =
    option_and_then (λ number. with_front (number ∷ []) (numbers_of parts)) (number_within 0 65535 part)

-- the numbers of books that a word writes between commas, in order
abbrev pub numbers_in : List ℕ → Option (List ℕ)
numbers_in word = numbers_of (parts_of word)

-- there are no numbers, or more than a list of books may have
abbrev pub AreNoneOrBeyond : Option (List ℕ) → Type 0
AreNoneOrBeyond None = ⊤
AreNoneOrBeyond (Some numbers) = book_limit < length numbers

-- numbers, where they are a list of books: 1 to 8, and each once
abbrev pub listed : List ℕ → Option (List ℕ)
listed numbers = if is_book_list numbers then Some numbers else None

-- the list of books that a word writes
abbrev pub books_listed : List ℕ → Option (List ℕ)
books_listed word = option_and_then listed (numbers_in word)
