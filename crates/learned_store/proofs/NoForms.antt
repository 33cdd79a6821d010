-- Each way in which a payload is none of the forms, at a small example.
use Rattle.std.proofs.Common.{◌≡◌, ◌≢◌, ℕ, true, Some, List, [], ◌∷◌, ◌++◌, codes, map, refl, arith}
use Rattle.std.specs.List.{list_all}
use Rattle.std.specs.Option.{is_none}
use Rattle.exact_readers.specs.Formats.{taken}
use Rattle.exact_readers.specs.Numbers.{number_of, number_step}
use Rattle.std.specs.Str.{chars, is_utf8}
use Rattle.skk_calls.specs.declared.part.Part.TheVariants.{Nasi}
use Rattle.skk_calls.specs.Rows.{Cand, Row}
use Rattle.skk_calls.specs.States.{State}
use Rattle.dict_format.specs.Reading.{line_reading, row_reading, key_at, texts_at, fit_items_at, some_row_of}
use Rattle.learned_store.specs.declared.form.PayloadForm.TheVariants.{Put, Drop, SetCount, Note, SetList}
use Rattle.learned_store.specs.Payloads.{SaysNothing}
use Rattle.learned_store.specs.Reading.{form_of}
use Rattle.learned_store.proofs.ReadForms.{below_said, unfit_said, unknown_said}
use Rattle.learned_store.proofs.ReadRows.{LinesAreRead}

-- another first byte
pub other_byte : (version : ℕ) (state : State) (first : ℕ) (rest : List ℕ) → first ≢ 1 → first ≢ 2 → first ≢ 3
    → first ≢ 4 → first ≢ 5 → SaysNothing version state (first ∷ rest)
other_byte version state first rest one two three four five form says =
    grind (arith, says.is, one, two, three, four, five)

-- a small number in eight bytes
abbrev eight : ℕ → List ℕ
eight n = n ∷ 0 ∷ 0 ∷ 0 ∷ 0 ∷ 0 ∷ 0 ∷ 0 ∷ []

-- the count 1 for book 1, with something behind it
abbrev counted : List ℕ → List ℕ
counted rest = 3 ∷ 1 ∷ 0 ∷ (eight 1 ++ rest)

-- what puts a row with a stamp into book 1, which then has the count 1, or takes a key out of it
abbrev put : ℕ → List ℕ → List ℕ
put stamp row = 1 ∷ 1 ∷ 0 ∷ (eight 1 ++ (eight stamp ++ row))

abbrev dropped : List ℕ → List ℕ
dropped key = 2 ∷ 1 ∷ 0 ∷ (eight 1 ++ key)

-- what gives a candidate of a row of book 1 a note, after which that has this count
abbrev noted : ℕ → List ℕ → List ℕ
noted count rest = 4 ∷ 1 ∷ 0 ∷ (eight count ++ rest)

-- nothing is read of each of these
abbrev ReadNone : List (List ℕ) → Type 0
ReadNone payloads = list_all (λ payload. is_none (form_of payload)) payloads ≡ true

-- no byte, two other first bytes, a count with a byte too few, and one with a byte too many
no_count : ReadNone ([] ∷ (0 ∷ []) ∷ (6 ∷ 1 ∷ 0 ∷ eight 1) ∷ (3 ∷ 1 ∷ 0 ∷ 1 ∷ 0 ∷ 0 ∷ 0 ∷ 0 ∷ 0 ∷ 0 ∷ [])
    ∷ counted (0 ∷ [])
    ∷ [])
unfolding number_of number_step
no_count = refl

-- a put and a drop that end before their part, a part that is neither 0 nor 1, a stamp of 0, and one above its count
no_part : ReadNone (put 1 [] ∷ dropped [] ∷ put 1 (2 ∷ codes "a /b/") ∷ dropped (2 ∷ codes "a")
    ∷ put 0 (0 ∷ codes "a /b/") ∷ put 2 (0 ∷ codes "a /b/")
    ∷ [])
unfolding number_of number_step
no_part = refl

-- a line and a reading that are not UTF-8: a byte that begins no character, and one that ends in the middle of one
no_text : ReadNone (put 1 (0 ∷ 97 ∷ 32 ∷ 47 ∷ 255 ∷ 47 ∷ []) ∷ dropped (0 ∷ 227 ∷ 129 ∷ []) ∷ [])
unfolding number_of number_step is_utf8 chars lib.Utf8.encode
no_text = refl

-- a reading that is empty, one that begins with `;`, one with a space, and one without the letter of its okurigana
no_key : ReadNone (dropped (0 ∷ []) ∷ dropped (0 ∷ codes ";a") ∷ dropped (0 ∷ codes "a b")
    ∷ dropped (1 ∷ 227 ∷ 129 ∷ 130 ∷ [])
    ∷ [])
unfolding number_of number_step is_utf8 chars lib.Utf8.encode
no_key = refl

-- lines that spell no row: no slash at the end; no item; a reading without its letter; nothing; and a line end
no_row : ReadNone (put 1 (0 ∷ codes "a /b") ∷ put 1 (0 ∷ codes "a //") ∷ put 1 (1 ∷ codes "a /b/") ∷ put 1 (0 ∷ [])
    ∷ put 1 (0 ∷ codes "a /b/\n")
    ∷ [])
unfolding number_of number_step is_utf8 chars lib.Utf8.encode line_reading row_reading key_at texts_at fit_items_at
    some_row_of taken
no_row = refl

-- lines that spell a row whose own line is another: two spaces; a candidate twice; an item that is empty; a note that
-- is empty; and a word that needs no quotes
no_own_line : ReadNone (put 1 (0 ∷ codes "a  /b/") ∷ put 1 (0 ∷ codes "a /b/b/") ∷ put 1 (0 ∷ codes "a //b/")
    ∷ put 1 (0 ∷ codes "a /b;/") ∷ put 1 (0 ∷ codes "a /(concat \"b\")/")
    ∷ [])
unfolding number_of number_step is_utf8 chars lib.Utf8.encode line_reading row_reading key_at texts_at fit_items_at
    some_row_of taken
no_own_line = refl

-- a note that ends before its part, before its length and within its reading, one whose part is neither 0 nor 1, one of
-- no reading, of no item and of two items, and one behind which the count is 0
no_note : ReadNone (noted 1 [] ∷ noted 1 (0 ∷ []) ∷ noted 1 (0 ∷ 2 ∷ codes "a") ∷ noted 1 (2 ∷ 1 ∷ codes "ab")
    ∷ noted 1 (0 ∷ 0 ∷ codes "b") ∷ noted 1 (0 ∷ 1 ∷ codes "a") ∷ noted 1 (0 ∷ 1 ∷ codes "ab/c")
    ∷ noted 0 (0 ∷ 1 ∷ codes "ab")
    ∷ [])
unfolding number_of number_step is_utf8 chars lib.Utf8.encode line_reading row_reading key_at texts_at fit_items_at
    some_row_of taken
no_note = refl

-- the candidate b with the note c
abbrev b_with_note : Cand
b_with_note = record { word = codes "b"; note = codes "c" }

-- the row of a with the candidate b and the stamp 1
abbrev spelled : Row
spelled =
    record {
      key = record { part = Nasi; reading = codes "a" };
      cands = record { word = codes "b"; note = [] } ∷ [];
      blocks = [];
      hides = [];
      stamp = 1;
    }

-- each form is read
forms_read : map form_of (put 1 (0 ∷ codes "a /b/") ∷ dropped (0 ∷ codes "a") ∷ counted []
    ∷ noted 1 (0 ∷ 1 ∷ codes "ab;c") ∷ [])
    ≡ Some (Put 1 1 spelled) ∷ Some (Drop 1 1 spelled.key) ∷ Some (SetCount 1 1)
    ∷ Some (Note 1 1 spelled.key b_with_note) ∷ []
unfolding number_of number_step is_utf8 chars lib.Utf8.encode line_reading row_reading key_at texts_at fit_items_at
    some_row_of taken
forms_read = refl

-- the list of typist 258, of so many books with these bytes
abbrev listed : ℕ → List ℕ → List ℕ
listed size rest = 5 ∷ 2 ∷ 1 ∷ size ∷ rest

-- a list that ends before its typist, within it, and before its length; one of no books, and one of nine; one with a
-- book twice; one with a byte and with a book too few, and too many; and one of an odd number of bytes
no_list : ReadNone ((5 ∷ []) ∷ (5 ∷ 2 ∷ []) ∷ (5 ∷ 2 ∷ 1 ∷ []) ∷ listed 0 []
    ∷ listed 9 (1 ∷ 0 ∷ 2 ∷ 0 ∷ 3 ∷ 0 ∷ 4 ∷ 0 ∷ 5 ∷ 0 ∷ 6 ∷ 0 ∷ 7 ∷ 0 ∷ 8 ∷ 0 ∷ 9 ∷ 0 ∷ [])
    ∷ listed 2 (7 ∷ 0 ∷ 7 ∷ 0 ∷ []) ∷ listed 3 (1 ∷ 0 ∷ 2 ∷ 0 ∷ 1 ∷ 0 ∷ [])
    ∷ listed 2 (7 ∷ 0 ∷ 0 ∷ []) ∷ listed 2 (7 ∷ 0 ∷ []) ∷ listed 1 (7 ∷ 0 ∷ 0 ∷ 0 ∷ []) ∷ listed 1 (7 ∷ 0 ∷ 0 ∷ [])
    ∷ listed 1 (7 ∷ []) ∷ listed 1 []
    ∷ [])
unfolding number_of number_step taken
no_list = refl

-- a list of one book, of two, and of eight; the books stand as they came
lists_read : map form_of (listed 1 (0 ∷ 0 ∷ []) ∷ listed 2 (7 ∷ 0 ∷ 0 ∷ 1 ∷ [])
    ∷ listed 8 (8 ∷ 0 ∷ 7 ∷ 0 ∷ 6 ∷ 0 ∷ 5 ∷ 0 ∷ 4 ∷ 0 ∷ 3 ∷ 0 ∷ 2 ∷ 0 ∷ 255 ∷ 255 ∷ []) ∷ [])
    ≡ Some (SetList 258 (0 ∷ [])) ∷ Some (SetList 258 (7 ∷ 256 ∷ []))
    ∷ Some (SetList 258 (8 ∷ 7 ∷ 6 ∷ 5 ∷ 4 ∷ 3 ∷ 2 ∷ 65535 ∷ [])) ∷ []
unfolding number_of number_step taken
lists_read = refl

-- a list says nothing in files of the versions 1 and 2, whatever the state is
list_unknown : LinesAreRead → (state : State) → SaysNothing 1 state (listed 2 (7 ∷ 0 ∷ 0 ∷ 0 ∷ []))
    × SaysNothing 2 state (listed 2 (7 ∷ 0 ∷ 0 ∷ 0 ∷ []))
unfolding number_of number_step taken
list_unknown lines state = (
  unknown_said lines 1 state _ (SetList 258 (7 ∷ 0 ∷ [])) refl refl,
  unknown_said lines 2 state _ (SetList 258 (7 ∷ 0 ∷ [])) refl refl,
)

-- book 1 has changed twice
abbrev twice : State
twice = record { books = record { number = 1; count = 2; rows = [] } ∷ []; lists = [] }

-- so each says nothing there, since its count is below that of its book
below : LinesAreRead → SaysNothing 1 twice (put 1 (0 ∷ codes "a /b/")) × SaysNothing 1 twice (dropped (0 ∷ codes "a"))
    × SaysNothing 1 twice (counted []) × SaysNothing 2 twice (noted 1 (0 ∷ 1 ∷ codes "ab;c"))
unfolding number_of number_step is_utf8 chars lib.Utf8.encode line_reading row_reading key_at texts_at fit_items_at
    some_row_of taken
below lines = (
  below_said lines 1 twice _ (Put 1 1 spelled) refl (λ least. omega (arith, least)),
  below_said lines 1 twice _ (Drop 1 1 spelled.key) refl (λ least. omega (arith, least)),
  below_said lines 1 twice _ (SetCount 1 1) refl (λ least. omega (arith, least)),
  below_said lines 2 twice _ (Note 1 1 spelled.key b_with_note) refl (λ least. omega (arith, least)),
)

-- book 1 has that row
abbrev once : State
once = record { books = record { number = 1; count = 1; rows = spelled ∷ [] } ∷ []; lists = [] }

-- a note says nothing in a file of version 1, nor where its row is not there
unknown : LinesAreRead → SaysNothing 1 once (noted 2 (0 ∷ 1 ∷ codes "ab;c"))
    × SaysNothing 2 twice (noted 3 (0 ∷ 1 ∷ codes "ab;c"))
unfolding number_of number_step is_utf8 chars lib.Utf8.encode line_reading row_reading key_at texts_at fit_items_at
    some_row_of taken
unknown lines = (
  unknown_said lines 1 once _ (Note 1 2 spelled.key b_with_note) refl refl,
  unfit_said lines 2 twice _ (Note 1 3 spelled.key b_with_note) refl refl,
)
