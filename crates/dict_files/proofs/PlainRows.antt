-- A reading, a space, a slash and a plain list of candidates are the canonical line of a row.
use Rattle.std.proofs.Common.{◌≡◌, ◌≤◌, ◌∙◌, ℕ, true, nat_le, Some, List, [], ◌∷◌, ◌++◌, map, refl}
use Rattle.std.proofs.Common.{inl, inr, sym, ap, arith, append_assoc, leb-true}
use Rattle.std.specs.List.{flat_map, list_all}
use Rattle.std.proofs.lemmas.Bool.{and_parts, eqb-true, le-leb}
use Rattle.std.proofs.lemmas.Option.{none-some, same_Some}
use Rattle.skk_text.specs.Text.{byte_len}
use Rattle.skk_text.specs.TextLaws.{byte_len-append}
use Rattle.skk_calls.specs.declared.part.Part.{Part}
use Rattle.skk_calls.specs.declared.part.Part.TheVariants.{Nasi, Ari}
use Rattle.skk_calls.specs.Canonical.{canonical, is_good, item, line_limit, mark_items, with_slash, written_block}
use Rattle.skk_calls.specs.FoundCands.{row_with}
use Rattle.skk_calls.specs.PlainCands.{cands_in, is_plain_list, plain_cands}
use Rattle.skk_calls.specs.PlainLaws.{plain_parts, row_is_valid}
use Rattle.skk_calls.specs.Rows.{Cand, Row, RowKey, begins_well, fits_part, is_reading_char, is_row, is_row_key}
use Rattle.exact_readers.specs.Cuts.{cut}
use Rattle.exact_readers.specs.CutLaws.{up_to-exact}
use Rattle.exact_readers.specs.ExactLaws.{chosen, past-sound}
use Rattle.exact_readers.specs.Formats.{past}
use Rattle.dict_format.specs.Reading.{is_space}

-- a row that can be written on a line, which is this one
pub record IsLineOf (line : List ℕ) (row : Row) : Type 0 where
  pub written : canonical row ≡ line
  pub valid : is_row row ≡ true
  pub good : is_good row ≡ true

-- candidates that were found in a text are those of a plain list
pub some_list : (text : List ℕ) (cands : List Cand) → plain_cands text ≡ Some cands
    → (is_plain_list text ≡ true) × (cands_in text ≡ cands)
some_list text cands e =
    elim (chosen (is_plain_list text) _ _ _ e) [
      | inl plain ↦ (plain.0, same_Some (cands_in text) cands plain.1)
      | inr other ↦ absurd (none-some cands other.1)
    ]

-- a reading has at most 255 bytes
short_reading : (part : Part) (reading : List ℕ) → fits_part part reading ≡ true → byte_len reading ≤ 255
short_reading Nasi reading fits = let short = leb-true (byte_len reading) 254 fits in omega arith
short_reading Ari reading fits = leb-true (byte_len reading) 255 (and_parts (nat_le (byte_len reading) 255) _ fits).0

-- what stands between a reading and its list has two bytes
between : byte_len (0x20 ∷ 0x2F ∷ []) ≡ 2
unfolding lib.Utf8.encode
between = refl

-- the items of a row with candidates alone are those of the candidates
items_with : (cands : List Cand) → map item cands ++ map written_block [] ++ mark_items [] ≡ map item cands
items_with [] = refl
items_with (cand ∷ cands) = ap (λ texts. item cand ∷ texts) (items_with cands)

-- so these are written behind its reading
written_with : (key : RowKey) (cands : List Cand)
    → canonical (row_with key cands) ≡ key.reading ++ 0x20 ∷ 0x2F ∷ flat_map with_slash (map item cands)
written_with key cands = ap (λ texts. key.reading ++ 0x20 ∷ 0x2F ∷ flat_map with_slash texts) (items_with cands)

-- a reading, a space, a slash and a plain list are the line of the row with this reading and these candidates
pub plain_line : (line reading rest behind : List ℕ) (part : Part) → cut is_space line ≡ Some (reading, rest)
    → past (0x2F ∷ []) rest ≡ Some behind → is_plain_list behind ≡ true
    → is_row_key (record { part = part; reading = reading }) ≡ true
    → IsLineOf line (row_with (record { part = part; reading = reading }) (cands_in behind))
plain_line line reading rest behind part cut_is past_is plain valid =
    let key : RowKey = record { part = part; reading = reading } in
    let is = (up_to-exact is_space).sound line reading rest cut_is in
    let (end, space, none, piece) = is.spelled in
    let split : line ≡ reading ++ 0x20 ∷ 0x2F ∷ behind =
    is.tokens_are ∙ ap (λ ys. ys ++ rest) piece ∙ append_assoc reading (end ∷ []) rest
    ∙ ap (λ c. reading ++ c ∷ rest) (eqb-true end 0x20 space)
    ∙ ap (λ ys. reading ++ 0x20 ∷ ys) (past-sound (0x2F ∷ []) rest behind past_is) in
    let list = plain_parts behind plain in
    let written : canonical (row_with key (cands_in behind)) ≡ line =
    written_with key (cands_in behind) ∙ ap (λ ys. reading ++ 0x20 ∷ 0x2F ∷ ys) list.written ∙ sym split in
    let fits = (and_parts (list_all is_reading_char reading) _ (and_parts (begins_well reading) _ valid).1).1 in
    let short : byte_len line ≤ line_limit =
    omega (
      arith,
      ap byte_len split,
      byte_len-append reading (0x20 ∷ 0x2F ∷ behind),
      byte_len-append (0x20 ∷ 0x2F ∷ []) behind,
      between,
      short_reading part reading fits,
      list.short,
    ) in
    let within : nat_le (byte_len (canonical (row_with key (cands_in behind)))) line_limit ≡ true =
    ap (λ ys. nat_le (byte_len ys) line_limit) written ∙ le-leb (byte_len line) line_limit short in
    record {
      written = written;
      valid = row_is_valid key (cands_in behind) valid list.valid list.differ;
      good = rw list.some_cand within;
    }
