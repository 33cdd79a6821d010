-- What is read of the parts of a payload is what they spell, and what may be written is read again.
use Rattle.std.proofs.Common.{◌≡◌, ◌^◌, ◌<◌, ◌≤◌, ◌&&◌, ◌==◌, ℕ, true, inl, inr, None, Some, List, [], ◌∷◌, ◌++◌}
use Rattle.std.proofs.Common.{encode_utf8_all, refl, sym, ap, ◌∙◌, subst, arith}
use Rattle.std.specs.Int.{w64}
use Rattle.std.specs.Option.{option_map}
use Rattle.std.specs.Str.{all_scalars, chars, is_utf8, IsUtf8}
use Rattle.std.proofs.lemmas.Bool.{and_from, and_parts, cases_Bool, eqb-true}
use Rattle.std.proofs.lemmas.Option.{none-some, same_Some}
use Rattle.std.proofs.lemmas.Str.{IsUtf8-from_is_utf8, chars_from_encodes, is_utf8-from_IsUtf8}
use Rattle.exact_readers.specs.ExactLaws.{chosen, option_map-some, then_at-some}
use Rattle.exact_readers.specs.Formats.{then_at}
use Rattle.exact_readers.specs.NumberLaws.{number-exact, told_64}
use Rattle.exact_readers.specs.Numbers.{number}
use Rattle.skk_text.specs.Counts.{last_count}
use Rattle.skk_calls.specs.declared.part.Part.{Part}
use Rattle.skk_calls.specs.declared.part.Part.TheVariants.{Nasi, Ari}
use Rattle.skk_calls.specs.Canonical.{canonical, is_good}
use Rattle.skk_calls.specs.Rows.{RowKey, Row, is_row_key, is_row}
use Rattle.skk_calls.specs.States.{fits_count, has_stamp}
use Rattle.learned_store.specs.Payloads.{part_byte, wide_number}
use Rattle.learned_store.specs.Reading.{Parted, parted_bytes, parted_key, parted_row, is_stamp}
use Rattle.learned_store.specs.Reading.{is_written_row, part_of, text_of, parted_of, valid_key, key_of, line_row}
use Rattle.learned_store.specs.Reading.{stamped_row, row_of}
use Rattle.learned_store.proofs.ReadRows.{LinesAreRead, LinesAreRows, own_sound, own_complete}
use Rattle.learned_store.proofs.SoundForms.{written_parts}

-- Parts and texts

pub part_sound : (byte : ℕ) (part : Part) → part_of byte ≡ Some part → byte ≡ part_byte part
part_sound byte part e = grind (arith, eqb-true byte 0, eqb-true byte 1)

pub text_sound : (bytes text : List ℕ) → text_of bytes ≡ Some text
    → (all_scalars text ≡ true) × (bytes ≡ encode_utf8_all text)
text_sound bytes text e =
    elim (chosen (is_utf8 bytes) _ _ _ e) [
      | inl read ↦
          let utf8 = IsUtf8-from_is_utf8 bytes read.0 in
          let same : utf8.0 ≡ text =
          chars_from_encodes utf8.0 bytes utf8 utf8.1.1 ∙ same_Some (chars bytes) text read.1 in
          (ap all_scalars (sym same) ∙ utf8.1.0, sym utf8.1.1 ∙ ap encode_utf8_all same)
      | inr none ↦ absurd (none-some text none.1)
    ]

-- what code finds of bytes
pub text_there : (bytes text : List ℕ) → IsUtf8 bytes → text ≡ chars bytes → Some text ≡ text_of bytes
text_there bytes text utf8 is = rw (is_utf8-from_IsUtf8 bytes utf8) (ap (λ t. Some t) is)

pub text_absent : (bytes : List ℕ) → (IsUtf8 bytes → ⊥) → None ≡ text_of bytes
text_absent bytes not = elim (cases_Bool (is_utf8 bytes)) [
  | inl is ↦ absurd (not (IsUtf8-from_is_utf8 bytes is))
  | inr none ↦ rw none refl
]

pub text_complete : (text : List ℕ) → all_scalars text ≡ true → text_of (encode_utf8_all text) ≡ Some text
text_complete text all =
    sym (text_there (encode_utf8_all text) text (text, (all, refl))
    (chars_from_encodes text (encode_utf8_all text) (text, (all, refl)) refl))

parted_sound : (bytes : List ℕ) (parted : Parted) → parted_of bytes ≡ Some parted
    → (all_scalars parted.1 ≡ true) × (bytes ≡ parted_bytes parted)
parted_sound [] parted e = absurd (none-some parted e)
parted_sound (byte ∷ bytes) parted e =
    let part = then_at-some (part_of byte) _ parted e in
    let text = option_map-some (text_of bytes) (λ t. (part.0, t)) parted part.2 in
    let told = text_sound bytes text.0 text.1 in
    subst (λ (p : Parted). (all_scalars p.1 ≡ true) × (byte ∷ bytes ≡ parted_bytes p)) text.2 (
      told.0,
      ap (λ b. b ∷ bytes) (part_sound byte part.0 part.1) ∙ ap (λ l. part_byte part.0 ∷ l) told.1,
    )

parted_complete : (parted : Parted) → all_scalars parted.1 ≡ true → parted_of (parted_bytes parted) ≡ Some parted
parted_complete (Nasi, text) all = ap (option_map (λ t. (Nasi, t))) (text_complete text all)
parted_complete (Ari, text) all = ap (option_map (λ t. (Ari, t))) (text_complete text all)

-- Keys

-- a key may be written, and these are its bytes
pub record IsKeyRead (bytes : List ℕ) (key : RowKey) : Type 0 where
  pub valid : is_row_key key ≡ true
  pub text : all_scalars key.reading ≡ true
  pub is : bytes ≡ parted_bytes (parted_key key)

pub key_sound : (bytes : List ℕ) (key : RowKey) → key_of bytes ≡ Some key → IsKeyRead bytes key
key_sound bytes key e =
    let parted = then_at-some (parted_of bytes) valid_key key e in
    let told = parted_sound bytes parted.0 parted.1 in
    elim (chosen (is_row_key (record { part = parted.0.0; reading = parted.0.1 })) _ _ _ parted.2) [
      | inl is ↦
          subst (IsKeyRead bytes) (same_Some (record { part = parted.0.0; reading = parted.0.1 }) key is.1)
          (record { valid = is.0; text = told.0; is = told.1 })
      | inr none ↦ absurd (none-some key none.1)
    ]

pub key_complete : (key : RowKey) → is_row_key key ≡ true → all_scalars key.reading ≡ true
    → key_of (parted_bytes (parted_key key)) ≡ Some key
key_complete key valid text =
    ap (λ o. then_at o valid_key) (parted_complete (parted_key key) text) ∙ grind (arith, valid)

-- Rows

-- a row may be written that stands in a book of this count, and these are its bytes
pub record IsRowRead (count : ℕ) (bytes : List ℕ) (row : Row) : Type 0 where
  pub written : is_written_row count row ≡ true
  pub is : bytes ≡ wide_number row.stamp ++ parted_bytes (parted_row row)

pub row_sound : LinesAreRows → (count : ℕ) (bytes : List ℕ) (row : Row) → row_of count bytes ≡ Some row
    → IsRowRead count bytes row
row_sound lines count bytes row e =
    let read = then_at-some ((number w64).step bytes) (stamped_row count) row e in
    let stamp = read.0.0 in
    let begins = (number-exact w64 told_64).sound bytes stamp read.0.1 read.1 in
    elim (chosen (is_stamp count stamp) _ _ _ read.2) [
      | inl fits ↦
          let parted = then_at-some (parted_of read.0.1) (line_row stamp) row fits.1 in
          let told = parted_sound read.0.1 parted.0 parted.1 in
          let own = own_sound lines parted.0.0 parted.0.1 stamp row parted.2 in
          let valid = and_parts (is_row row) (is_good row && row.stamp == stamp) own.0 in
          let good = and_parts (is_good row) (row.stamp == stamp) valid.1 in
          let same = sym (eqb-true row.stamp stamp good.1) in
          record {
            written =
                and_from (fits_count count row) (all_scalars (canonical row))
                (and_from (is_row row) (is_good row && has_stamp count row) valid.0
                (and_from (is_good row) (has_stamp count row) good.0
                (subst (λ n. is_stamp count n ≡ true) same fits.0)))
                (sym (ap (λ (p : Parted). all_scalars p.1) own.1) ∙ told.0);
            is =
                begins.tokens_are ∙ ap (λ l. l ++ read.0.1) begins.spelled.1
                ∙ ap (λ l. wide_number stamp ++ l) (told.1 ∙ ap parted_bytes own.1)
                ∙ ap (λ n. wide_number n ++ parted_bytes (parted_row row)) same;
          }
      | inr none ↦ absurd (none-some row none.1)
    ]

pub row_complete : LinesAreRead → (count : ℕ) (row : Row) → count ≤ last_count → is_written_row count row ≡ true
    → row_of count (wide_number row.stamp ++ parted_bytes (parted_row row)) ≡ Some row
row_complete lines count row last written =
    let parts = written_parts count row written in
    let bytes = parted_bytes (parted_row row) in
    ap (λ o. then_at o (stamped_row count)) ((number-exact w64 told_64).complete (wide_number row.stamp) row.stamp bytes
    ((let fits : row.stamp < 256 ^ 8 = omega (arith, parts.at_most, last) in fits), refl))
    ∙ rw parts.stamp (ap (λ o. then_at o (line_row row.stamp)) (parted_complete (parted_row row) parts.text)
    ∙ own_complete lines row.stamp row (grind (arith, parts.valid, parts.good)))
