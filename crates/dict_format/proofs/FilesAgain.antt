-- The file that is printed of good rows lists them again.
use Rattle.std.proofs.Common.{◌≡◌, ◌&&◌, ◌≤◌, ℕ, ◌+◌, true, false, List, [], ◌∷◌, ◌++◌, map, length, refl, sym}
use Rattle.std.proofs.Common.{encode_utf8_all, ap, subst, ◌∙◌, append_assoc, append-nil, inl, arith}
use lib.Utf8.{encode}
use Rattle.std.specs.List.{flat_map, list_all}
use Rattle.std.specs.Str.{IsUtf8}
use Rattle.std.proofs.Math.Utf8.{scalars}
use Rattle.std.proofs.lemmas.Bool.{and_parts, and_from, both_ways}
use Rattle.std.proofs.lemmas.List.{map-append}
use Rattle.std.proofs.lemmas.List.Concat.{flat_map-append}
use Rattle.std.proofs.lemmas.List.Folds.{list_all-append}
use Rattle.std.proofs.lemmas.Str.{chars-encodes, encodes-append, encodes_same}
use Rattle.skk_text.specs.PairsLaws.{all_pairs-map}
use Rattle.exact_readers.specs.LackLaws.{bytes_are, above_ascii, lines_again}
use Rattle.exact_readers.specs.Lacking.{lacks}
use Rattle.exact_readers.specs.Lines.{with_line_end}
use Rattle.exact_readers.specs.Trimming.{trimmed_line}
use Rattle.exact_readers.specs.TrimmingLaws.{trimmed-kept}
use Rattle.skk_text.specs.Lines.{lines_of}
use Rattle.skk_calls.specs.KeyLaws.{same_part_equal}
use Rattle.skk_calls.specs.declared.part.Part.{Part}
use Rattle.skk_calls.specs.declared.part.Part.TheVariants.{Nasi, Ari}
use Rattle.skk_calls.specs.Canonical.{canonical, is_good}
use Rattle.skk_calls.specs.Rows.{Row, begins_well, is_row, keys_differ}
use Rattle.dict_format.specs.declared.file.Listed.{Listed}
use Rattle.dict_format.specs.declared.file_lines.LineKind.TheVariants.{Entry}
use Rattle.dict_format.specs.FileLines.{Lists, TakeAll, entries_from, entries_of, file_limit, has_key, kind_of}
use Rattle.dict_format.specs.FileLines.{none_listed}
use Rattle.dict_format.specs.Lines.{SpellsRow}
use Rattle.dict_format.specs.PrintedFiles.{in_printing_order, is_of, part_in_order, part_line, printed_file}
use Rattle.dict_format.specs.PrintedFiles.{without_stamp}
use Rattle.dict_format.proofs.LinesAgain.{canonical_begins, canonical_ends, canonical_lacks, canonical_spells}
use Rattle.dict_format.proofs.PrintingOrder.{differ_in_key, order_keeps_keys, part_holds, part_passes}

-- The line of a row

-- the bytes of a text that begins well are an entry
kind_entry : (text : List ℕ) → begins_well text ≡ true → kind_of (encode_utf8_all text) ≡ Entry
kind_entry [] begins = absurd (both_ways false refl begins)
kind_entry (c ∷ text) begins = grind (arith, bytes_are c, above_ascii 0x3B (omega arith))

-- all of it is read
whole_line : (row : Row) → trimmed_line (encode_utf8_all (canonical row)) ≡ encode_utf8_all (canonical row)
unfolding encode
whole_line row =
    let (front, ends) = canonical_ends row in
    let slash : encode_utf8_all (canonical row) ≡ encode_utf8_all front ++ 0x2F ∷ [] =
    ap encode_utf8_all ends ∙ encodes-append front (0x2F ∷ []) in
    rw slash (trimmed-kept (encode_utf8_all front) 0x2F refl refl)

-- Rows

-- these rows are listed, and no bad line
abbrev listing : List Row → Listed
listing rows = record { book = rows; bad = [] }

-- of rows whose keys differ none before a row has its key
key_new : (rows : List Row) (row : Row) (more : List Row) → keys_differ (rows ++ row ∷ more) ≡ true
    → has_key rows row.key ≡ false
key_new [] row more differ = refl
key_new (other ∷ rows) row more differ = grind (arith, list_all-append {X = Row}, key_new rows row more)

-- their lines hold no LF
rows_lack : (rows : List Row) → list_all is_row rows ≡ true → list_all is_good rows ≡ true
    → list_all (lacks 10) (map canonical rows) ≡ true
rows_lack [] valid good = refl
rows_lack (row ∷ rows) valid good =
    let valids = and_parts (is_row row) (list_all is_row rows) valid in
    let goods = and_parts (is_good row) (list_all is_good rows) good in
    and_from (lacks 10 (canonical row)) _ (canonical_lacks row valids.0 goods.0) (rows_lack rows valids.1 goods.1)

-- the lines of rows are taken in front of others
rows_taken : (part : Part) (rows book more : List Row) (lines : List (List ℕ)) (after : Listed)
    → list_all (is_of part) rows ≡ true → list_all is_row rows ≡ true → list_all is_good rows ≡ true
    → list_all scalars (map canonical rows) ≡ true → keys_differ (book ++ (map without_stamp rows ++ more)) ≡ true
    → ((number : ℕ) → TakeAll (listing (book ++ map without_stamp rows)) (entries_from number part lines) after)
    → (number : ℕ)
    → TakeAll (listing book) (entries_from number part (map encode_utf8_all (map canonical rows) ++ lines)) after
rows_taken part [] book more lines after of valid good text differ rest number = rw append-nil at (rest number)
rows_taken part (row ∷ rows) book more lines after of valid good text differ rest number =
    let ofs = and_parts (is_of part row) (list_all (is_of part) rows) of in
    let valids = and_parts (is_row row) (list_all is_row rows) valid in
    let goods = and_parts (is_good row) (list_all is_good rows) good in
    let texts = and_parts (scalars (canonical row)) (list_all scalars (map canonical rows)) text in
    let spells : SpellsRow part (canonical row) (without_stamp row) =
    subst (λ (p : Part). SpellsRow p (canonical row) (without_stamp row)) (same_part_equal row.key.part part ofs.0)
    (canonical_spells row valids.0 goods.0) in
    let next = book ++ without_stamp row ∷ [] in
    let new = key_new book (without_stamp row) (map without_stamp rows ++ more) differ in
    let joined = append_assoc book (without_stamp row ∷ []) in
    let entry = kind_entry (canonical row) (canonical_begins row valids.0 goods.0) in
    rw (whole_line row, entry, chars-encodes (canonical row) texts.0) (
      listing next,
      inl (without_stamp row, (spells, new), refl),
      rows_taken part rows next more lines after ofs.1 valids.1 goods.1 texts.1
          (ap keys_differ (joined (map without_stamp rows ++ more)) ∙ differ)
          (λ n. rw (joined (map without_stamp rows)) (rest n)) (number + 1),
    )

-- Lines

-- the characters of lines are those of a text
scalars-append : (xs ys : List ℕ) → scalars (xs ++ ys) ≡ (scalars xs && scalars ys)
scalars-append [] ys = refl
scalars-append (c ∷ xs) ys = grind (arith, scalars-append xs ys)

lines_scalars : (texts : List (List ℕ)) → scalars (flat_map with_line_end texts) ≡ true → list_all scalars texts ≡ true
lines_scalars [] all = refl
lines_scalars (text ∷ texts) all = grind (arith, scalars-append, lines_scalars texts)

-- the lines of a part, and of the file
abbrev part_lines : Part → List Row → List (List ℕ)
part_lines part rows = part_line part ∷ map canonical (part_in_order part rows)

abbrev file_lines : List Row → List (List ℕ)
file_lines rows = part_lines Ari rows ++ part_lines Nasi rows

file_is : (rows : List Row) → printed_file rows ≡ flat_map with_line_end (file_lines rows)
file_is rows = sym (flat_map-append with_line_end (part_lines Ari rows) (part_lines Nasi rows))

-- The file

module _ (rows : List Row) (valid : list_all is_row rows ≡ true) (good : list_all is_good rows ≡ true) where
  -- the entries of the file are those of its rows
  file_entries : entries_of (encode_utf8_all (printed_file rows)) ≡ entries_from 2 Ari
      (map encode_utf8_all (map canonical (part_in_order Ari rows))
      ++ part_line Nasi ∷ map encode_utf8_all (map canonical (part_in_order Nasi rows)))
  unfolding encode
  file_entries =
      let lack : list_all (lacks 10) (file_lines rows) ≡ true =
      list_all-append (lacks 10) (part_lines Ari rows) (part_lines Nasi rows)
      ∙ and_from (list_all (lacks 10) (part_lines Ari rows)) _
      (rows_lack (part_in_order Ari rows) (part_passes Ari is_row rows valid) (part_passes Ari is_good rows good))
      (rows_lack (part_in_order Nasi rows) (part_passes Nasi is_row rows valid) (part_passes Nasi is_good rows good)) in
      ap (entries_from 1 Nasi)
      (ap (λ text. lines_of (encode_utf8_all text)) (file_is rows) ∙ lines_again (file_lines rows) lack
      ∙ map-append encode_utf8_all (part_lines Ari rows) (part_lines Nasi rows))

  -- they are taken
  file_taken : keys_differ rows ≡ true → scalars (printed_file rows) ≡ true
      → TakeAll (listing []) (entries_of (encode_utf8_all (printed_file rows)))
      (listing (map without_stamp (in_printing_order rows)))
  file_taken differ text =
      let ari = map without_stamp (part_in_order Ari rows) in
      let nasi = map without_stamp (part_in_order Nasi rows) in
      let joined = map-append without_stamp (part_in_order Ari rows) (part_in_order Nasi rows) in
      let all : keys_differ (ari ++ nasi) ≡ true =
      ap keys_differ (sym joined) ∙ all_pairs-map without_stamp differ_in_key (in_printing_order rows)
      ∙ order_keeps_keys rows differ in
      let later = map encode_utf8_all (map canonical (part_in_order Nasi rows)) in
      let after = listing (ari ++ nasi) in
      rw (file_entries, joined)
      (taken Ari [] nasi (part_line Nasi ∷ later) after all
      (λ number. rw (append-nil later) at
      (taken Nasi ari [] [] after (rw (append-nil nasi) all) (λ n. refl) (number + 1))) 2)
    where
      both : (list_all scalars (part_lines Ari rows) && list_all scalars (part_lines Nasi rows)) ≡ true
      both =
          sym (list_all-append scalars (part_lines Ari rows) (part_lines Nasi rows))
          ∙ lines_scalars (file_lines rows) (ap scalars (sym (file_is rows)) ∙ text)

      texts : (part : Part) → list_all scalars (map canonical (part_in_order part rows)) ≡ true
      texts Ari = (and_parts (list_all scalars (part_lines Ari rows)) _ both).0
      texts Nasi = (and_parts (list_all scalars (part_lines Ari rows)) _ both).1

      taken : (part : Part) (book more : List Row) (lines : List (List ℕ)) (after : Listed)
          → keys_differ (book ++ (map without_stamp (part_in_order part rows) ++ more)) ≡ true
          → ((number : ℕ) → TakeAll (listing (book ++ map without_stamp (part_in_order part rows)))
          (entries_from number part lines) after) → (number : ℕ) → TakeAll (listing book) (entries_from number part
          (map encode_utf8_all (map canonical (part_in_order part rows)) ++ lines)) after
      taken part book more lines after =
          rows_taken part (part_in_order part rows) book more lines after (part_holds part rows)
          (part_passes part is_row rows valid) (part_passes part is_good rows good) (texts part)

-- the entries of the file that is printed of good rows whose keys differ come to them
pub entries_again : (rows : List Row) → keys_differ rows ≡ true → list_all is_row rows ≡ true
    → list_all is_good rows ≡ true → IsUtf8 (encode_utf8_all (printed_file rows))
    → TakeAll none_listed (entries_of (encode_utf8_all (printed_file rows)))
    (record { book = map without_stamp (in_printing_order rows); bad = [] })
entries_again rows differ valid good utf8 =
    let text : scalars (printed_file rows) ≡ true =
    subst (λ (cs : List ℕ). scalars cs ≡ true) (encodes_same utf8.0 (printed_file rows) utf8.1.1) utf8.1.0 in
    file_taken rows valid good differ text

-- so it lists them where it is not too long
pub file_again : (rows : List Row) → keys_differ rows ≡ true → list_all is_row rows ≡ true
    → list_all is_good rows ≡ true → length (encode_utf8_all (printed_file rows)) ≤ file_limit
    → IsUtf8 (encode_utf8_all (printed_file rows)) → Lists (encode_utf8_all (printed_file rows))
    (record { book = map without_stamp (in_printing_order rows); bad = [] })
file_again rows differ valid good short utf8 =
    record { not_long = short; valid = utf8; entries = entries_again rows differ valid good utf8 }
