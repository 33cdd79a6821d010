-- The definitions at small files, each worked out by hand.
use Rattle.std.proofs.Common.{◌≡◌, ℕ, Bool, true, false, None, Some, List, [], ◌∷◌, codes, map, refl}
use Prim.Native.String.{String}
use Rattle.std.specs.Str.{chars}
use Rattle.skk_text.specs.Text.{byte_len}
use Rattle.skk_calls.specs.declared.part.Part.{Part}
use Rattle.skk_calls.specs.declared.part.Part.TheVariants.{Nasi, Ari}
use Rattle.skk_calls.specs.Rows.{Row}
use Rattle.exact_readers.specs.Formats.{taken}
use Rattle.exact_readers.specs.Lacking.{lacks}
use Rattle.dict_format.specs.FileLines.{FileEntry}
use Rattle.dict_format.specs.Reading.{texts_at, key_at, fit_items_at, some_row_of, row_reading, line_reading}
use Rattle.dict_files.specs.declared.place.Place.{Place}
use Rattle.dict_files.specs.FilePlaces.{piece_at, line_at, reading_at, first_row, has_reading, is_below, is_above}
use Rattle.dict_files.specs.FilePlaces.{marks_of, rise, rises}
use Rattle.dict_files.specs.Files.{is_file}
use Rattle.dict_files.specs.Marks.{every_sixteenth, spaced}
use Rattle.dict_files.specs.PlainLines.{begins_word, is_plain, plain_reading}
use Rattle.dict_files.specs.Scanning.{rows_in}
use Rattle.dict_files.specs.Walked.{is_walked, walked_reading, walked_readings}

-- Places

-- pieces at the front, in the middle and at the end, and pieces that are not there
pieces : map (λ (piece : ℕ × ℕ). piece_at (codes "abcd") piece.0 piece.1)
    ((0, 2) ∷ (1, 2) ∷ (2, 2) ∷ (0, 4) ∷ (1, 0) ∷ (4, 0) ∷ (3, 2) ∷ (0, 5) ∷ (5, 0) ∷ [])
    ≡ codes "ab" ∷ codes "bc" ∷ codes "cd" ∷ codes "abcd" ∷ [] ∷ [] ∷ [] ∷ [] ∷ [] ∷ []
pieces = refl

abbrev place : ℕ → ℕ → ℕ → Place
place start reading line = record { start = start; reading = reading; line = line }

-- lines behind one another: the second spells no row
abbrev lines : List ℕ
lines = codes "ab /x/ab aa /x/aa /y/"

reading : reading_at lines (place 0 2 6) ≡ codes "ab"
reading = refl

line : line_at lines (place 0 2 6) ≡ codes "ab /x/"
line = refl

abbrev letter : ℕ → Place
letter start = place start 1 1

with_reading : map (λ start. has_reading (codes "abc") (codes "b") (letter start)) (0 ∷ 1 ∷ 2 ∷ [])
    ≡ false ∷ true ∷ false ∷ []
with_reading = refl

below : map (λ start. is_below (codes "abc") (codes "b") (letter start)) (0 ∷ 1 ∷ 2 ∷ []) ≡ true ∷ false ∷ false ∷ []
below = refl

above : map (λ start. is_above (codes "abc") (codes "b") (letter start)) (0 ∷ 1 ∷ 2 ∷ []) ≡ false ∷ false ∷ true ∷ []
above = refl

rising : map (λ start. rises (codes "abc") (letter 1) (letter start)) (0 ∷ 1 ∷ 2 ∷ []) ≡ false ∷ true ∷ true ∷ []
rising = refl

all_rise : map (λ starts. rise (codes "abc") (map letter starts))
    ([] ∷ (2 ∷ []) ∷ (0 ∷ 1 ∷ 2 ∷ []) ∷ (0 ∷ 0 ∷ 1 ∷ []) ∷ (0 ∷ 2 ∷ 1 ∷ []) ∷ (1 ∷ 2 ∷ 0 ∷ []) ∷ [])
    ≡ true ∷ true ∷ true ∷ true ∷ false ∷ false ∷ []
all_rise = refl

-- Marks

-- with none, one and two between them, from the first one on and from later ones
spaced_letters : map (λ (from : ℕ × ℕ). spaced from.0 (codes "abcdef") from.1)
    ((0, 0) ∷ (1, 0) ∷ (1, 1) ∷ (2, 0) ∷ (2, 2) ∷ (2, 5) ∷ (2, 6) ∷ (6, 0) ∷ [])
    ≡ codes "abcdef" ∷ codes "ace" ∷ codes "bdf" ∷ codes "ad" ∷ codes "cf" ∷ codes "f" ∷ [] ∷ codes "a" ∷ []
spaced_letters = refl

-- of no letter, one, sixteen, seventeen, thirty-two and thirty-three
sixteenths : map (λ text. every_sixteenth (codes text)) (
    "" ∷ "a" ∷ "abcdefghijklmnop" ∷ "abcdefghijklmnopq" ∷ "abcdefghijklmnopqrstuvwxyz012345"
    ∷ "abcdefghijklmnopqrstuvwxyz0123456"
    ∷ [])
    ≡ [] ∷ codes "a" ∷ codes "a" ∷ codes "aq" ∷ codes "aq" ∷ codes "aq6" ∷ []
sixteenths = refl

-- the readings of seventeen entries, of which the first and the last have marks
marks : marks_of (codes "abc") (
    letter 0 ∷ letter 1 ∷ letter 1 ∷ letter 1 ∷ letter 1 ∷ letter 1 ∷ letter 1 ∷ letter 1 ∷ letter 1 ∷ letter 1
    ∷ letter 1 ∷ letter 1 ∷ letter 1 ∷ letter 1 ∷ letter 1 ∷ letter 1 ∷ letter 2
    ∷ [])
    ≡ codes "a" ∷ codes "c" ∷ []
marks = refl

-- Rows

abbrev row : Part → String → List String → Row
row part reading words = record {
  key = record { part = part; reading = codes reading };
  cands = map (λ word. record { word = codes word; note = [] }) words;
  blocks = [];
  hides = [];
  stamp = 0;
}

-- the first entry that spells a row gives it, behind one that spells none too
first_rows : map (first_row Nasi lines) (
    [] ∷ (place 6 2 3 ∷ []) ∷ (place 6 2 3 ∷ place 9 2 6 ∷ place 15 2 6 ∷ []) ∷ (place 15 2 6 ∷ place 9 2 6 ∷ [])
    ∷ [])
    ≡ None ∷ None ∷ Some (row Nasi "aa" ("x" ∷ [])) ∷ Some (row Nasi "aa" ("y" ∷ [])) ∷ []
unfolding chars lib.Utf8.encode taken texts_at key_at fit_items_at some_row_of row_reading line_reading
first_rows = refl

abbrev entry : Part → String → FileEntry
entry part text = record { number = 1; part = part; text = codes text }

-- of entries of both parts, of which one spells no row, the rows of each part
rows_of_parts : map (λ part. rows_in part
    (entry Nasi "a /x/" ∷ entry Ari "いr /y/" ∷ entry Nasi "b" ∷ entry Nasi "a /z/" ∷ [])) (Nasi ∷ Ari ∷ [])
    ≡ (row Nasi "a" ("x" ∷ []) ∷ row Nasi "a" ("z" ∷ []) ∷ []) ∷ (row Ari "いr" ("y" ∷ []) ∷ []) ∷ []
unfolding lib.Utf8.encode taken texts_at key_at fit_items_at some_row_of row_reading line_reading
rows_of_parts = refl

-- rows of one key, and a row with no reading, are those of no file
files : map is_file (
    [] ∷ (row Nasi "a" ("x" ∷ []) ∷ row Nasi "b" ("x" ∷ []) ∷ []) ∷ (row Nasi "ar" [] ∷ row Ari "ar" [] ∷ [])
    ∷ (row Nasi "a" ("x" ∷ []) ∷ row Nasi "a" ("y" ∷ []) ∷ []) ∷ (row Nasi "" ("x" ∷ []) ∷ [])
    ∷ [])
    ≡ true ∷ true ∷ true ∷ false ∷ false ∷ []
unfolding lib.Utf8.encode
files = refl

-- Walks

walked : map is_walked (
    row Nasi "a" ("x" ∷ []) ∷ row Nasi "a" [] ∷ row Ari "ar" ("x" ∷ []) ∷ row Ari "ar" []
    ∷ [])
    ≡ true ∷ false ∷ false ∷ false ∷ []
walked = refl

readings : map walked_reading (None ∷ Some (row Nasi "a" []) ∷ Some (row Nasi "a" ("x" ∷ [])) ∷ [])
    ≡ None ∷ None ∷ Some (codes "a") ∷ []
readings = refl

-- each reading once, in order, but for those of rows with okurigana and of rows without a candidate
walk : walked_readings (
    row Nasi "b" ("x" ∷ []) ∷ row Ari "dr" ("x" ∷ []) ∷ row Nasi "a" ("x" ∷ []) ∷ row Nasi "c" []
    ∷ row Nasi "b" ("y" ∷ []) ∷ row Nasi "か" ("x" ∷ [])
    ∷ [])
    ≡ codes "a" ∷ codes "b" ∷ codes "か" ∷ []
unfolding lib.Utf8.encode
walk = refl

-- Plain lines

-- a word is there, and neither a slash nor a note begins the text
words_begun : map (λ text. begins_word (codes text))
    ("" ∷ "/" ∷ ";" ∷ "/x/" ∷ ";x/" ∷ "x/" ∷ "x" ∷ "x;y/" ∷ "." ∷ "0" ∷ ":" ∷ "<" ∷ [])
    ≡ false ∷ false ∷ false ∷ false ∷ false ∷ true ∷ true ∷ true ∷ true ∷ true ∷ true ∷ true ∷ []
words_begun = refl

-- lines with what they begin with and what stands behind their first slash are plain where a table says so
abbrev ArePlain : List (String × String × String × Bool) → Type 0
ArePlain table =
    map (λ (line : String × String × String × Bool). is_plain (codes line.0) (codes line.1) (codes line.2)) table
    ≡ map (λ (line : String × String × String × Bool). line.3) table

-- a word, words with notes, and characters beside a parenthesis
plain_lines : ArePlain (
    ("a /x/", "a", "x/", true) ∷ ("かんじ /漢字/幹事;人/", "かんじ", "漢字/幹事;人/", true) ∷ ("a /x;y//", "a", "x;y//", true)
    ∷ ("a /)'*/", "a", ")'*/", true) ∷ ("ar /x/", "ar", "x/", true)
    ∷ [])
unfolding lib.Utf8.encode
plain_lines = refl

-- each thing that is wanting by itself: no parenthesis, a valid reading, a word, and the slash at the end
other_lines : ArePlain (
    ("a /(/", "a", "(/", false) ∷ ("a /x;(y/", "a", "x;(y/", false) ∷ ("(a /x/", "(a", "x/", false)
    ∷ (" /x/", "", "x/", false) ∷ (";a /x/", ";a", "x/", false) ∷ ("a //", "a", "/", false)
    ∷ ("a /;x/", "a", ";x/", false) ∷ ("a /x", "a", "x", false) ∷ ("a /x/y", "a", "x/y", false)
    ∷ ("a /", "a", "", false)
    ∷ [])
unfolding lib.Utf8.encode
other_lines = refl

-- a line of as many bytes as a word may have, and of one more
longest_line : (line : List ℕ) → byte_len line ≡ 4095 → lacks 0x28 line ≡ true
    → is_plain line (codes "a") (codes "x/") ≡ true
unfolding lib.Utf8.encode
longest_line line bytes lack = rw bytes (rw lack refl)

too_long_line : (line : List ℕ) → byte_len line ≡ 4096 → is_plain line (codes "a") (codes "x/") ≡ false
too_long_line line bytes = rw bytes refl

-- the reading of a plain line: it ends at the first space, and the slash follows that at once
plain_readings : map (λ line. plain_reading (codes line)) (
    "a /x/" ∷ "かんじ /漢字/" ∷ "a /x y/" ∷ "" ∷ "a" ∷ "a/x/" ∷ "a x/" ∷ "a  /x/" ∷ " /x/" ∷ "a /(x/" ∷ "a //" ∷ "a /x"
    ∷ [])
    ≡ Some (codes "a") ∷ Some (codes "かんじ") ∷ Some (codes "a") ∷ None ∷ None ∷ None ∷ None ∷ None ∷ None ∷ None
    ∷ None ∷ None ∷ []
unfolding lib.Utf8.encode
plain_readings = refl
