-- What is read of payloads and of their parts, at small examples, each worked out by hand.
use Rattle.std.proofs.Common.{◌≡◌, ℕ, true, false, None, Some, List, [], ◌∷◌, codes, map, refl}
use Rattle.std.specs.Str.{is_utf8, chars}
use Rattle.exact_readers.specs.Formats.{taken}
use Rattle.exact_readers.specs.Numbers.{number_bytes, number_of, number_step}
use Rattle.skk_calls.specs.declared.part.Part.{Part}
use Rattle.skk_calls.specs.declared.part.Part.TheVariants.{Nasi, Ari}
use Rattle.skk_calls.specs.Rows.{RowKey, Row}
use Rattle.dict_format.specs.Reading.{line_reading, row_reading, key_at, texts_at, fit_items_at, some_row_of}
use Rattle.learned_store.specs.declared.form.PayloadForm.TheVariants.{Put, Drop, SetCount}
use Rattle.learned_store.specs.Reading.{payload_with, put_with, parted_bytes, parted_key, parted_row, is_line_row}
use Rattle.learned_store.specs.Reading.{is_written_row, IsSpelled, HasOneCand}
use Rattle.learned_store.specs.Reading.{part_of, text_of, parted_of, key_of, if_own, line_row, is_stamp}
use Rattle.learned_store.specs.Reading.{row_of, noted_of, form_behind, form_of}
use Rattle.learned_store.proofs.SmallFiles.{row, row_a, row_c, first, second, third, fourth, nothing}

abbrev key : Part → List ℕ → RowKey
key part reading = record { part = part; reading = reading }

-- おおk with okurigana
abbrev inflected : Row
inflected = record (row (codes "おおk") (codes "大") 3) { key = key Ari (codes "おおk") }

-- What is written

written : (payload_with 4 258 772 (9 ∷ []) ≡ 4 ∷ 2 ∷ 1 ∷ 4 ∷ 3 ∷ 0 ∷ 0 ∷ 0 ∷ 0 ∷ 0 ∷ 0 ∷ 9 ∷ [])
    × (put_with 258 772 259 (0 ∷ 9 ∷ [])
    ≡ 1 ∷ 2 ∷ 1 ∷ 4 ∷ 3 ∷ 0 ∷ 0 ∷ 0 ∷ 0 ∷ 0 ∷ 0 ∷ 3 ∷ 1 ∷ 0 ∷ 0 ∷ 0 ∷ 0 ∷ 0 ∷ 0 ∷ 0 ∷ 9 ∷ [])
unfolding number_bytes
written = (refl, refl)

-- a part and a text, a key, and a row's line
parted : (map parted_bytes ((Nasi, codes "a") ∷ (Ari, codes "あk") ∷ [])
    ≡ (0 ∷ 97 ∷ []) ∷ (1 ∷ 227 ∷ 129 ∷ 130 ∷ 107 ∷ []) ∷ [])
    × (parted_key (key Ari (codes "あk")) ≡ (Ari, codes "あk"))
    × (map parted_row (row_a ∷ inflected ∷ []) ≡ (Nasi, codes "a /b/") ∷ (Ari, codes "おおk /大/") ∷ [])
unfolding lib.Utf8.encode
parted = (refl, refl, refl)

-- b for a with the stamp 1; the same with another stamp; and a row without a key
line_rows : map (λ (line : ℕ × Row). is_line_row line.0 line.1)
    ((1, row_a) ∷ (2, row_a) ∷ (3, inflected) ∷ (1, row [] (codes "b") 1) ∷ (1, record row_a { cands = [] }) ∷ [])
    ≡ true ∷ false ∷ true ∷ false ∷ false ∷ []
unfolding lib.Utf8.encode
line_rows = refl

-- a row below its stamp, at it and above it; one that spells a number that is no character
written_rows : map (λ (line : ℕ × Row). is_written_row line.0 line.1)
    ((0, row_a) ∷ (1, row_a) ∷ (2, row_a) ∷ (2, row (codes "a") (0xD800 ∷ []) 1) ∷ (2, inflected) ∷ (3, inflected) ∷ [])
    ≡ false ∷ true ∷ true ∷ false ∷ false ∷ true ∷ []
unfolding lib.Utf8.encode
written_rows = refl

spelled : IsSpelled row_a (0 ∷ 97 ∷ 32 ∷ 47 ∷ 98 ∷ 47 ∷ [])
    × IsSpelled inflected (1 ∷ 227 ∷ 129 ∷ 138 ∷ 227 ∷ 129 ∷ 138 ∷ 107 ∷ 32 ∷ 47 ∷ 229 ∷ 164 ∷ 167 ∷ 47 ∷ [])
unfolding lib.Utf8.encode
spelled = (record { characters = refl; is = refl }, record { characters = refl; is = refl })

one_cand : HasOneCand Nasi 1 row_a × HasOneCand Ari 3 inflected
unfolding lib.Utf8.encode
one_cand = (
  record {
    valid = refl;
    part_is = refl;
    stamp_is = refl;
    cand = record { word = codes "b"; note = [] };
    cands = refl;
    blocks = refl;
    hides = refl;
  },
  record {
    valid = refl;
    part_is = refl;
    stamp_is = refl;
    cand = record { word = codes "大"; note = [] };
    cands = refl;
    blocks = refl;
    hides = refl;
  },
)

-- What is read

parts : map part_of (0 ∷ 1 ∷ 2 ∷ 255 ∷ []) ≡ Some Nasi ∷ Some Ari ∷ None ∷ None ∷ []
parts = refl

-- no byte; a letter; a kana, and one that is cut short; a byte that begins nothing; a surrogate in three bytes
texts : map text_of (
    [] ∷ (97 ∷ []) ∷ (227 ∷ 129 ∷ 130 ∷ []) ∷ (227 ∷ 129 ∷ []) ∷ (255 ∷ []) ∷ (237 ∷ 160 ∷ 128 ∷ []) ∷ [])
    ≡ Some [] ∷ Some (97 ∷ []) ∷ Some (codes "あ") ∷ None ∷ None ∷ None ∷ []
unfolding is_utf8 chars lib.Utf8.encode
texts = refl

part_texts : map parted_of ([] ∷ (0 ∷ []) ∷ (1 ∷ 97 ∷ []) ∷ (2 ∷ 97 ∷ []) ∷ (0 ∷ 255 ∷ []) ∷ [])
    ≡ None ∷ Some (Nasi, []) ∷ Some (Ari, 97 ∷ []) ∷ None ∷ None ∷ []
unfolding is_utf8 chars lib.Utf8.encode
part_texts = refl

-- a key of either part; none without a reading, without its letter, with a space
keys : map key_of (
    (0 ∷ 97 ∷ []) ∷ (1 ∷ 227 ∷ 129 ∷ 130 ∷ 107 ∷ []) ∷ [] ∷ (0 ∷ []) ∷ (1 ∷ 227 ∷ 129 ∷ 130 ∷ [])
    ∷ (0 ∷ 97 ∷ 32 ∷ 98 ∷ []) ∷ [])
    ≡ Some (key Nasi (codes "a")) ∷ Some (key Ari (codes "あk")) ∷ None ∷ None ∷ None ∷ None ∷ []
unfolding is_utf8 chars lib.Utf8.encode
keys = refl

stamps : map (λ (line : ℕ × ℕ). is_stamp line.0 line.1) ((2, 0) ∷ (2, 1) ∷ (2, 2) ∷ (2, 3) ∷ (0, 0) ∷ [])
    ≡ false ∷ true ∷ true ∷ false ∷ false ∷ []
stamps = refl

-- a row gets a stamp where the line is its own
own : map (λ line. if_own 7 line row_a) (codes "a /b/" ∷ codes "a /b" ∷ codes "a /b/c/" ∷ [])
    ≡ Some (record row_a { stamp = 7 }) ∷ None ∷ None ∷ []
unfolding lib.Utf8.encode
own = refl

-- b for a; two spaces; no last slash; a candidate twice; no candidate; another part
rows : map (line_row 1) (
    (Nasi, codes "a /b/") ∷ (Nasi, codes "a  /b/") ∷ (Nasi, codes "a /b") ∷ (Nasi, codes "a /b/b/")
    ∷ (Nasi, codes "a //") ∷ (Nasi, codes "a") ∷ (Nasi, []) ∷ (Ari, codes "おおk /大/") ∷ (Ari, codes "おお /大/") ∷ [])
    ≡ Some row_a ∷ None ∷ None ∷ None ∷ None ∷ None ∷ None ∷ Some (record inflected { stamp = 1 }) ∷ None ∷ []
unfolding lib.Utf8.encode taken
    line_reading row_reading key_at texts_at fit_items_at some_row_of
rows = refl

-- the stamps 0 to 3 in a book of the count 2, and seven bytes of a stamp
stamped : map (λ stamp. row_of 2 (stamp ∷ 0 ∷ 0 ∷ 0 ∷ 0 ∷ 0 ∷ 0 ∷ 0 ∷ 0 ∷ codes "a /b/")) (0 ∷ 1 ∷ 2 ∷ 3 ∷ [])
    ≡ None ∷ Some row_a ∷ Some (record row_a { stamp = 2 }) ∷ None ∷ []
unfolding is_utf8 chars lib.Utf8.encode number_of number_step taken
    line_reading row_reading key_at texts_at fit_items_at some_row_of
stamped = refl

cut_rows : map (row_of 2) ([] ∷ (1 ∷ 0 ∷ 0 ∷ 0 ∷ 0 ∷ 0 ∷ 0 ∷ []) ∷ (1 ∷ 0 ∷ 0 ∷ 0 ∷ 0 ∷ 0 ∷ 0 ∷ 0 ∷ []) ∷ [])
    ≡ None ∷ None ∷ None ∷ []
unfolding number_of number_step
cut_rows = refl

-- the payloads of small files, and what none of the forms is
forms : map form_of (first ∷ second ∷ third ∷ fourth ∷ nothing ∷ [] ∷ [])
    ≡ Some (Put 1 1 row_a) ∷ Some (Put 1 2 row_c) ∷ Some (Drop 1 2 (key Nasi (codes "a"))) ∷ Some (SetCount 1 5)
    ∷ None ∷ None ∷ []
unfolding is_utf8 chars lib.Utf8.encode number_of number_step taken
    line_reading row_reading key_at texts_at fit_items_at some_row_of
forms = refl

-- the key and the candidate of a note, one without its note, and none: another part; a reading that ends behind the
-- payload; no reading; no item; two items; and what ends before the length, and before the part
notes : map noted_of (
    (0 ∷ 1 ∷ codes "ab;c") ∷ (0 ∷ 1 ∷ codes "ab") ∷ (2 ∷ 1 ∷ codes "ab") ∷ (0 ∷ 3 ∷ codes "ab") ∷ (0 ∷ 0 ∷ codes "b")
    ∷ (0 ∷ 1 ∷ codes "a") ∷ (0 ∷ 1 ∷ codes "ab/c") ∷ (0 ∷ []) ∷ [] ∷ [])
    ≡ Some (key Nasi (codes "a"), record { word = codes "b"; note = codes "c" })
    ∷ Some (key Nasi (codes "a"), record { word = codes "b"; note = [] })
    ∷ None ∷ None ∷ None ∷ None ∷ None ∷ None ∷ None ∷ []
unfolding is_utf8 chars lib.Utf8.encode taken
    line_reading row_reading key_at texts_at fit_items_at some_row_of
notes = refl

-- a form by its kind, with the rest behind the count: a count has none, and that of a list speaks of no book
kinds : map (λ kind. form_behind kind 258 5 []) (0 ∷ 1 ∷ 2 ∷ 3 ∷ 4 ∷ 5 ∷ [])
    ≡ None ∷ None ∷ None ∷ Some (SetCount 258 5) ∷ None ∷ None ∷ []
unfolding number_step
kinds = refl

behind_kinds : map (λ kind. form_behind kind 258 5 (0 ∷ 97 ∷ [])) (0 ∷ 1 ∷ 2 ∷ 3 ∷ 4 ∷ 5 ∷ [])
    ≡ None ∷ None ∷ Some (Drop 258 5 (key Nasi (codes "a"))) ∷ None ∷ None ∷ None ∷ []
unfolding is_utf8 chars lib.Utf8.encode number_of number_step
behind_kinds = refl

-- a count of a wide number; its payload cut at each field; and a byte behind it
counts : map form_of (
    (3 ∷ 2 ∷ 1 ∷ 1 ∷ 2 ∷ 3 ∷ 4 ∷ 5 ∷ 6 ∷ 7 ∷ 8 ∷ []) ∷ (3 ∷ []) ∷ (3 ∷ 2 ∷ []) ∷ (3 ∷ 2 ∷ 1 ∷ [])
    ∷ (3 ∷ 2 ∷ 1 ∷ 1 ∷ 2 ∷ 3 ∷ 4 ∷ 5 ∷ 6 ∷ 7 ∷ []) ∷ (3 ∷ 2 ∷ 1 ∷ 1 ∷ 2 ∷ 3 ∷ 4 ∷ 5 ∷ 6 ∷ 7 ∷ 8 ∷ 0 ∷ []) ∷ [])
    ≡ Some (SetCount 258 578437695752307201) ∷ None ∷ None ∷ None ∷ None ∷ None ∷ []
unfolding number_of number_step
counts = refl
