-- What is read of a payload, whatever the state: its fields from the front, and behind them the row, the key or the
-- books to the end.
use Rattle.std.specs.Prelude.{◌≡◌, ℕ, Bool, true, ◌&&◌, ◌==◌, nat_le, if◌then◌else◌, Option, None, Some, List, [], ◌∷◌}
use Rattle.std.specs.Prelude.{◌++◌, encode_utf8_all, length, take, drop}
use Rattle.std.specs.Int.{w16, w64}
use Rattle.std.specs.Option.{option_map}
use Rattle.std.specs.Str.{all_scalars, chars, is_utf8}
use Rattle.exact_readers.specs.Formats.{Format, all, both, one_as, then_at}
use Rattle.exact_readers.specs.Numbers.{number}
use Rattle.skk_text.specs.Lists.{is_empty}
use Rattle.skk_calls.specs.declared.part.Part.{Part}
use Rattle.skk_calls.specs.declared.part.Part.TheVariants.{Nasi, Ari}
use Rattle.skk_calls.specs.BookLists.{is_book_list}
use Rattle.skk_calls.specs.Canonical.{canonical, is_good, with_slash}
use Rattle.skk_calls.specs.Rows.{Cand, RowKey, Row, is_row_key, is_row, same_text}
use Rattle.skk_calls.specs.States.{fits_count}
use Rattle.dict_format.specs.EntryRows.{row_of_line}
use Rattle.learned_store.specs.declared.form.PayloadForm.{PayloadForm}
use Rattle.learned_store.specs.declared.form.PayloadForm.TheVariants.{Put, Drop, SetCount, Note, SetList}
use Rattle.learned_store.specs.Payloads.{book_number, wide_number, part_byte}

-- What is written

-- a payload of a kind, with the number of a book and a count, and the rest behind them
abbrev pub payload_with : ℕ → ℕ → ℕ → List ℕ → List ℕ
payload_with kind book count rest = kind ∷ (book_number book ++ (wide_number count ++ rest))

-- a payload that puts a row: the number of a book, a count, and the row's stamp, with its part and line behind them
abbrev pub put_with : ℕ → ℕ → ℕ → List ℕ → List ℕ
put_with book count stamp row = payload_with 1 book count (wide_number stamp ++ row)

-- a part, and a text in it
abbrev pub Parted : Type 0
Parted = Part × List ℕ

-- the bytes of a part and a text
abbrev pub parted_bytes : Parted → List ℕ
parted_bytes parted = part_byte parted.0 ∷ encode_utf8_all parted.1

-- the part of a key, and its reading
abbrev pub parted_key : RowKey → Parted
parted_key key = (key.part, key.reading)

-- the part of a row, and its line
abbrev pub parted_row : Row → Parted
parted_row row = (row.key.part, canonical row)

-- a row of a stamp is one that its line is read as
abbrev pub is_line_row : ℕ → Row → Bool
is_line_row stamp row = is_row row && (is_good row && row.stamp == stamp)

-- a row may be written that stands in a book of this count
abbrev pub is_written_row : ℕ → Row → Bool
is_written_row count row = fits_count count row && all_scalars (canonical row)

-- these are the bytes of a row's part and line, which may be written
pub record IsSpelled (row : Row) (bytes : List ℕ) : Type 0 where
  pub characters : all_scalars (canonical row) ≡ true
  pub is : bytes ≡ parted_bytes (parted_row row)

-- a row of a part and a stamp has one candidate, and nothing else
pub record HasOneCand (part : Part) (stamp : ℕ) (row : Row) : Type 0 where
  pub valid : is_row row ≡ true
  pub part_is : row.key.part ≡ part
  pub stamp_is : row.stamp ≡ stamp
  pub cand : Cand
  pub cands : row.cands ≡ cand ∷ []
  pub blocks : row.blocks ≡ []
  pub hides : row.hides ≡ []

-- What is read

-- the part of a byte
abbrev pub part_of : ℕ → Option Part
part_of byte = if byte == 0 then Some Nasi else if byte == 1 then Some Ari else None

-- the text of bytes that are UTF-8
abbrev pub text_of : List ℕ → Option (List ℕ)
text_of bytes = if is_utf8 bytes then Some (chars bytes) else None

-- the part of the first byte, and the text of those behind it
abbrev pub parted_of : List ℕ → Option Parted
parted_of [] = None
parted_of (byte ∷ bytes) = then_at (part_of byte) (λ part. option_map (λ text. (part, text)) (text_of bytes))

-- the key of a part and a reading, where that is valid in it
abbrev pub valid_key : Parted → Option RowKey
valid_key parted =
    let key : RowKey = record { part = parted.0; reading = parted.1 } in if is_row_key key then Some key else None

-- the key of its bytes
abbrev pub key_of : List ℕ → Option RowKey
key_of bytes = then_at (parted_of bytes) valid_key

-- a row with a stamp, where this is its own line
abbrev pub if_own : ℕ → List ℕ → Row → Option Row
if_own stamp line row = if same_text (canonical row) line then Some (record row { stamp = stamp }) else None

-- the row of a stamp that a line spells in a part, where the line is that row's own
abbrev pub line_row : ℕ → Parted → Option Row
line_row stamp parted = then_at (row_of_line parted.0 parted.1) (if_own stamp parted.1)

-- a row of a book of this count may have this stamp
abbrev pub is_stamp : ℕ → ℕ → Bool
is_stamp count stamp = nat_le 1 stamp && nat_le stamp count

-- the row of a stamp that was read and of the bytes behind it
abbrev pub stamped_row : ℕ → ℕ × List ℕ → Option Row
stamped_row count read =
    if is_stamp count read.0 then then_at (parted_of read.1) (line_row read.0) else None

-- the row of its bytes, in a book of this count
abbrev pub row_of : ℕ → List ℕ → Option Row
row_of count bytes = then_at ((number w64).step bytes) (stamped_row count)

-- the row of a reading that has one candidate alone
abbrev pub one_row : RowKey → Cand → Row
one_row key cand = record { key = key; cands = cand ∷ []; blocks = []; hides = []; stamp = 1 }

-- the line of such a row, by its reading and the item of its candidate
abbrev pub one_line : List ℕ → List ℕ → List ℕ
one_line reading item = reading ++ 0x20 ∷ 0x2F ∷ with_slash item

-- the candidate of candidates that are one alone
abbrev pub single_cand : List Cand → Option Cand
single_cand [] = None
single_cand (cand ∷ []) = Some cand
single_cand (cand ∷ other ∷ cands) = None

-- the key of a row with its candidate, where the row has this reading and one candidate alone
abbrev pub only_cand : List ℕ → Row → Option (RowKey × Cand)
only_cand reading row =
    if same_text row.key.reading reading && (is_empty row.blocks && is_empty row.hides)
    then option_map (λ cand. (row.key, cand)) (single_cand row.cands)
    else None

-- the key and the candidate of a part, of the bytes of a reading and of those of an item, as the line of such a row has
-- them
abbrev pub item_cand : Part → List ℕ → List ℕ → Option (RowKey × Cand)
item_cand part reading item =
    then_at (text_of reading)
    (λ r. then_at (text_of item) (λ i. then_at (line_row 1 (part, one_line r i)) (only_cand r)))

-- the key and the candidate of their bytes: a part, the length of the reading in bytes, the reading, and the item to
-- the end
abbrev pub noted_of : List ℕ → Option (RowKey × Cand)
noted_of [] = None
noted_of (byte ∷ []) = None
noted_of (byte ∷ size ∷ bytes) =
    then_at (part_of byte)
    (λ part. if nat_le size (length bytes) then item_cand part (take size bytes) (drop size bytes) else None)

-- what every payload that speaks of a book begins with: the byte of its kind, the number of the book, and a count
abbrev pub fields : Format ℕ (ℕ × (ℕ × ℕ))
fields = both (one_as (λ kind. Some kind)) (both (number w16) (number w64))

-- what the bytes behind the fields say
abbrev pub form_behind : ℕ → ℕ → ℕ → List ℕ → Option PayloadForm
form_behind kind book count rest =
    if kind == 1 then option_map (Put book count) (row_of count rest)
    else if kind == 2 then option_map (Drop book count) (key_of rest)
    else if kind == 3 && is_empty rest then Some (SetCount book count)
    else if kind == 4 && nat_le 1 count then option_map (λ noted. Note book count noted.0 noted.1) (noted_of rest)
    else None

-- what a payload says that speaks of a book
abbrev pub counted_form : List ℕ → Option PayloadForm
counted_form payload =
    then_at (fields.step payload) (λ read. form_behind read.0.0 read.0.1.0 read.0.1.1 read.1)

-- numbers as a list of books, where they are one
abbrev pub valid_list : List ℕ → Option (List ℕ)
valid_list numbers = if is_book_list numbers then Some numbers else None

-- the list of the books whose numbers are read of all bytes, where there are just so many
abbrev pub books_of : ℕ → List ℕ → Option (List ℕ)
books_of size bytes =
    then_at (all (number w16) bytes) (λ numbers. if length numbers == size then valid_list numbers else None)

-- the list of a typist, by the bytes of how many books there are and of their numbers
abbrev pub typist_list : ℕ × List ℕ → Option PayloadForm
typist_list (typist, []) = None
typist_list (typist, size ∷ bytes) = option_map (SetList typist) (books_of size bytes)

-- the list of a typist, by the bytes behind that of its kind
abbrev pub list_of : List ℕ → Option PayloadForm
list_of bytes = then_at ((number w16).step bytes) typist_list

-- what a payload says
abbrev pub form_of : List ℕ → Option PayloadForm
form_of [] = None
form_of (kind ∷ bytes) = if kind == 5 then list_of bytes else counted_form (kind ∷ bytes)
