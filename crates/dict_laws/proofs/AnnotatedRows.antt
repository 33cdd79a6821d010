-- The row after a candidate is annotated is a row, and a good one where its line is not too long.
use Rattle.std.proofs.Common.{◌≡◌, ℕ, Bool, true, not, ◌||◌, nat_le, Option, refl, subst}
use Rattle.skk_text.specs.Text.{byte_len}
use Rattle.skk_text.specs.PairsLaws.{list_all-filter}
use Rattle.skk_calls.specs.Canonical.{canonical, is_good, line_limit}
use Rattle.skk_text.specs.Lists.{is_empty}
use Rattle.skk_calls.specs.Learning.{annotated, row_or_empty}
use Rattle.skk_calls.specs.Rows.{RowKey, Cand, Row, same_text, is_row_key, is_word, is_cand, fits_blocks, is_row}
use Rattle.skk_calls.specs.RowLaws.{RowParts, row_from_parts}
use Rattle.dict_laws.specs.AnnotatedRows.{cands_annotated, some_annotated, words_annotated}
use Rattle.dict_laws.proofs.RowParts.{BeforeParts, good_from_parts}
use Rattle.dict_laws.proofs.Texts.{differ_filter}

module _ (before : Option Row) (key : RowKey) (cand : Cand) (stamp : ℕ) (is : is_row_key key ≡ true)
    (cand_is : is_cand cand ≡ true) (was : BeforeParts key (row_or_empty key before)) where
  -- the row after a candidate is annotated has its parts
  pub annotated_parts : RowParts (annotated before key cand stamp)
  annotated_parts =
      let row : Row = row_or_empty key before in
      record {
        key = is;
        cands = cands_annotated cand row.cands cand_is was.parts.cands;
        words = words_annotated cand row.cands was.parts.words;
        part = subst (λ (k : RowKey). fits_blocks k.part row.blocks ≡ true) was.same_text was.parts.part;
        blocks = was.parts.blocks;
        okuri = was.parts.okuri;
        hides = differ_filter (λ other. not (same_text other cand.word)) row.hides was.parts.hides;
      }

  -- it is a row
  pub annotated_is_row : is_row (annotated before key cand stamp) ≡ true
  annotated_is_row = row_from_parts (annotated before key cand stamp) annotated_parts

  -- and a good one where it is short
  pub annotated_is_good : nat_le (byte_len (canonical (annotated before key cand stamp))) line_limit ≡ true
      → is_good (annotated before key cand stamp) ≡ true
  annotated_is_good short =
      let row : Row = row_or_empty key before in
      good_from_parts (annotated before key cand stamp) annotated_parts
      (list_all-filter is_word (λ other. not (same_text other cand.word)) row.hides was.hidden)
      (or_first (not (is_empty row.blocks) || not (is_empty (annotated before key cand stamp).hides))
      (some_annotated cand row.cands))
      short
    where
      or_first : {some : Bool} (more : Bool) → some ≡ true → (some || more) ≡ true
      or_first more e = rw e refl
