-- The key and the candidate that are read of a note are those that its bytes spell, and they are read again.
use Rattle.std.proofs.Common.{◌≡◌, ◌≤◌, ◌&&◌, ◌==◌, ℕ, true, inl, inr, nat_le, length, Some, List}
use Rattle.std.proofs.Common.{[], ◌∷◌, ◌++◌, take, drop, encode_utf8_all, refl, sym, ap, ◌∙◌, subst, arith}
use Rattle.std.specs.List.{list_all}
use Rattle.std.specs.Str.{all_scalars}
use Rattle.std.proofs.Math.Seq.{take-append_seam, drop-append_seam}
use Rattle.std.proofs.lemmas.Bool.{and_parts, leb-true, le-leb}
use Rattle.std.proofs.lemmas.List.{append-nil, append_cancel_left, append_cancel_right, length-append, length-take-le}
use Rattle.std.proofs.lemmas.List.{take-append-drop}
use Rattle.std.proofs.lemmas.Option.{none-some, same_Some}
use Rattle.exact_readers.specs.ExactLaws.{chosen, option_map-some, then_at-some}
use Rattle.exact_readers.specs.Formats.{then_at}
use Rattle.skk_text.specs.Lists.{is_empty}
use Rattle.skk_text.specs.Text.{byte_len}
use Rattle.skk_text.specs.TextLaws.{byte_len-append}
use Rattle.skk_calls.specs.declared.part.Part.{Part}
use Rattle.skk_calls.specs.declared.part.Part.TheVariants.{Nasi, Ari}
use Rattle.skk_calls.specs.Canonical.{canonical, is_good, item, line_limit, with_slash}
use Rattle.skk_calls.specs.KeyLaws.{same_equal, same_itself}
use Rattle.skk_calls.specs.RowLaws.{row_parts}
use Rattle.skk_calls.specs.Rows.{RowKey, Cand, Row, is_row_key, is_cand, is_row, same_text, fits_blocks}
use Rattle.learned_store.specs.Payloads.{noted_bytes, part_byte}
use Rattle.learned_store.specs.Reading.{is_line_row, item_cand, line_row, noted_of, one_line, one_row, only_cand}
use Rattle.learned_store.specs.Reading.{part_of, single_cand, text_of}
use Rattle.learned_store.proofs.ItemLengths.{item_most, short_reading}
use Rattle.learned_store.proofs.ReadParts.{part_sound, text_sound, text_complete}
use Rattle.learned_store.proofs.ReadRows.{LinesAreRead, LinesAreRows, own_sound, own_complete}

-- The row of one candidate

-- its line
one_canonical : (key : RowKey) (cand : Cand) → canonical (one_row key cand) ≡ one_line key.reading (item cand)
one_canonical key cand = ap (λ l. key.reading ++ 0x20 ∷ 0x2F ∷ l) (append-nil (with_slash (item cand)))

-- a row that has one candidate and nothing else has that line
only_canonical : (row : Row) (cand : Cand) → row.cands ≡ cand ∷ [] → row.blocks ≡ [] → row.hides ≡ []
    → canonical row ≡ one_line row.key.reading (item cand)
only_canonical row cand cands blocks hides = rw (cands, blocks, hides) (one_canonical row.key cand)

around : (byte_len (0x20 ∷ 0x2F ∷ []) ≡ 2) × (byte_len (0x2F ∷ []) ≡ 1)
unfolding lib.Utf8.encode
around = (refl, refl)

-- it is a row that its line is read as
one_is_row : (key : RowKey) (cand : Cand) → is_row_key key ≡ true → is_cand cand ≡ true
    → is_line_row 1 (one_row key cand) ≡ true
one_is_row key cand valid cand_is =
    let row = one_row key cand in
    let is : is_row row ≡ true = grind (arith, by key.part) in
    let long : byte_len (canonical row) ≤ line_limit = omega (
      arith,
      ap byte_len (one_canonical key cand),
      byte_len-append key.reading (0x20 ∷ 0x2F ∷ with_slash (item cand)),
      byte_len-append (0x20 ∷ 0x2F ∷ []) (with_slash (item cand)),
      byte_len-append (item cand) (0x2F ∷ []),
      around.0,
      around.1,
      short_reading key valid,
      item_most cand cand_is,
    ) in
    grind (arith, is, le-leb (byte_len (canonical row)) line_limit long)
  where
    by : (part : Part) → fits_blocks part [] ≡ true
    by Nasi = refl
    by Ari = refl

-- Reading

-- what is read of a key and a candidate may be written, and these are its bytes
pub record IsNotedRead (bytes : List ℕ) (key : RowKey) (cand : Cand) : Type 0 where
  pub valid : is_row_key key ≡ true
  pub cand_is : is_cand cand ≡ true
  pub reading : all_scalars key.reading ≡ true
  pub item : all_scalars (item cand) ≡ true
  pub is : bytes ≡ noted_bytes key cand

-- what is known of a row whose one candidate is read
record IsOnly (reading : List ℕ) (row : Row) (key : RowKey) (cand : Cand) : Type 0 where
  same : row.key.reading ≡ reading
  key_is : row.key ≡ key
  cands : row.cands ≡ cand ∷ []
  blocks : row.blocks ≡ []
  hides : row.hides ≡ []

empty_is : {X : Type 0} (xs : List X) → is_empty xs ≡ true → xs ≡ []
empty_is [] e = refl
empty_is (x ∷ xs) e = cc

single_is : (cands : List Cand) (cand : Cand) → single_cand cands ≡ Some cand → cands ≡ cand ∷ []
single_is [] cand e = cc
single_is (first ∷ []) cand e = ap (λ c. c ∷ []) (same_Some first cand e)
single_is (first ∷ other ∷ cands) cand e = cc

only_sound : (reading : List ℕ) (row : Row) (noted : RowKey × Cand) → only_cand reading row ≡ Some noted
    → IsOnly reading row noted.0 noted.1
only_sound reading row noted e =
    elim (chosen (same_text row.key.reading reading && (is_empty row.blocks && is_empty row.hides)) _ _ _ e) [
      | inl is ↦
          let tests = and_parts (same_text row.key.reading reading) (is_empty row.blocks && is_empty row.hides) is.0 in
          let more = and_parts (is_empty row.blocks) (is_empty row.hides) tests.1 in
          let found = option_map-some (single_cand row.cands) (λ cand. (row.key, cand)) noted is.1 in
          record {
            same = same_equal row.key.reading reading tests.0;
            key_is = ap (λ (n : RowKey × Cand). n.0) found.2;
            cands = single_is row.cands found.0 found.1
                ∙ ap (λ (n : RowKey × Cand). n.1 ∷ []) found.2;
            blocks = empty_is row.blocks more.0;
            hides = empty_is row.hides more.1;
          }
      | inr none ↦ absurd (none-some noted none.1)
    ]

item_sound : LinesAreRows → (part : Part) (reading text : List ℕ) (noted : RowKey × Cand)
    → item_cand part reading text ≡ Some noted
    → IsNotedRead (part_byte part ∷ length reading ∷ (reading ++ text)) noted.0 noted.1
item_sound lines part reading text noted e =
    let read = then_at-some (text_of reading) _ noted e in
    let spelled = text_sound reading read.0 read.1 in
    let also = then_at-some (text_of text) _ noted read.2 in
    let item_is = text_sound text also.0 also.1 in
    let found = then_at-some (line_row 1 (part, one_line read.0 also.0)) (only_cand read.0) noted also.2 in
    let row : Row = found.0 in
    let own = own_sound lines part (one_line read.0 also.0) 1 row found.1 in
    let only = only_sound read.0 row noted found.2 in
    let parts = row_parts row (and_parts (is_row row) (is_good row && row.stamp == 1) own.0).0 in
    let lines_are : one_line read.0 also.0 ≡ one_line read.0 (item noted.1) =
    ap (λ (p : Part × List ℕ). p.1) own.1
    ∙ only_canonical row noted.1 only.cands only.blocks only.hides
    ∙ ap (λ r. one_line r (item noted.1)) only.same in
    let items_are : also.0 ≡ item noted.1 =
    append_cancel_right also.0 (item noted.1) (0x2F ∷ [])
    (append_cancel_left (0x20 ∷ 0x2F ∷ []) (with_slash also.0) (with_slash (item noted.1))
    (append_cancel_left read.0 (0x20 ∷ 0x2F ∷ with_slash also.0) (0x20 ∷ 0x2F ∷ with_slash (item noted.1))
    lines_are)) in
    let part_is : part ≡ noted.0.part =
    ap (λ (p : Part × List ℕ). p.0) own.1 ∙ ap (λ (k : RowKey). k.part) only.key_is in
    let reading_is : read.0 ≡ noted.0.reading = sym only.same ∙ ap (λ (k : RowKey). k.reading) only.key_is in
    record {
      valid = subst (λ (k : RowKey). is_row_key k ≡ true) only.key_is parts.key;
      cand_is = one_of noted.1 (subst (λ (cs : List Cand). list_all is_cand cs ≡ true) only.cands parts.cands);
      reading = ap all_scalars (sym reading_is) ∙ spelled.0;
      item = ap all_scalars (sym items_are) ∙ item_is.0;
      is =
          ap (λ (p : Part). part_byte p ∷ length reading ∷ (reading ++ text)) part_is
          ∙ ap (λ l. part_byte noted.0.part ∷ length l ∷ (l ++ text)) (spelled.1 ∙ ap encode_utf8_all reading_is)
          ∙ ap (λ l. part_byte noted.0.part ∷ byte_len noted.0.reading ∷ (encode_utf8_all noted.0.reading ++ l))
          (item_is.1 ∙ ap encode_utf8_all items_are);
    }
  where
    one_of : (cand : Cand) → list_all is_cand (cand ∷ []) ≡ true → is_cand cand ≡ true
    one_of cand all = grind arith

pub noted_sound : LinesAreRows → (bytes : List ℕ) (noted : RowKey × Cand) → noted_of bytes ≡ Some noted
    → IsNotedRead bytes noted.0 noted.1
noted_sound lines [] noted e = absurd (none-some noted e)
noted_sound lines (byte ∷ []) noted e = absurd (none-some noted e)
noted_sound lines (byte ∷ size ∷ bytes) noted e =
    let part = then_at-some (part_of byte) _ noted e in
    elim (chosen (nat_le size (length bytes)) _ _ _ part.2) [
      | inl fits ↦
          let whole : size ≤ length bytes = leb-true size (length bytes) fits.0 in
          let read = item_sound lines part.0 (take size bytes) (drop size bytes) noted fits.1 in
          subst (λ (l : List ℕ). IsNotedRead l noted.0 noted.1)
          (ap (λ (n : ℕ). part_byte part.0 ∷ n ∷ (take size bytes ++ drop size bytes))
          (length-take-le size bytes whole)
          ∙ ap (λ (l : List ℕ). part_byte part.0 ∷ size ∷ l) (take-append-drop size bytes)
          ∙ ap (λ (b : ℕ). b ∷ size ∷ bytes) (sym (part_sound byte part.0 part.1))) read
      | inr none ↦ absurd (none-some noted none.1)
    ]

-- Reading again

part_complete : (part : Part) → part_of (part_byte part) ≡ Some part
part_complete Nasi = refl
part_complete Ari = refl

only_complete : (key : RowKey) (cand : Cand) → only_cand key.reading (one_row key cand) ≡ Some (key, cand)
only_complete key cand = rw (same_itself key.reading) refl

item_complete : LinesAreRead → (key : RowKey) (cand : Cand) → is_row_key key ≡ true → is_cand cand ≡ true
    → all_scalars key.reading ≡ true → all_scalars (item cand) ≡ true
    → item_cand key.part (encode_utf8_all key.reading) (encode_utf8_all (item cand)) ≡ Some (key, cand)
item_complete lines key cand valid cand_is reading text =
    let row = one_row key cand in
    let line = ap (λ l. line_row 1 (key.part, l)) (sym (one_canonical key cand))
    ∙ own_complete lines 1 row (one_is_row key cand valid cand_is) in
    rw (text_complete key.reading reading, text_complete (item cand) text)
    (ap (λ o. then_at o (only_cand key.reading)) line ∙ only_complete key cand)

pub noted_complete : LinesAreRead → (key : RowKey) (cand : Cand) → is_row_key key ≡ true → is_cand cand ≡ true
    → all_scalars key.reading ≡ true → all_scalars (item cand) ≡ true
    → noted_of (noted_bytes key cand) ≡ Some (key, cand)
noted_complete lines key cand valid cand_is reading text =
    let front = encode_utf8_all key.reading in
    let back = encode_utf8_all (item cand) in
    let fits : nat_le (length front) (length (front ++ back)) ≡ true =
    le-leb (length front) (length (front ++ back)) (omega (arith, length-append front back)) in
    rw (part_complete key.part, fits, take-append_seam front back, drop-append_seam front back)
    (item_complete lines key cand valid cand_is reading text)
