-- The row after one of its candidates is annotated: it is a row, and a good one where its line is not too long.
use Rattle.std.proofs.Common.{◌≡◌, ℕ, true, false, not, nat_le, Some, List, [], ◌∷◌, refl, arith}
use Rattle.std.specs.List.{list_all}
use Rattle.skk_text.specs.Lists.{is_empty}
use Rattle.skk_text.specs.PairsLaws.{list_all-filter, all_pairs-filter}
use Rattle.skk_text.specs.Text.{byte_len}
use Rattle.skk_calls.specs.Canonical.{canonical, is_good, line_limit}
use Rattle.skk_calls.specs.DifferLaws.{differ_parts, differ_from}
use Rattle.skk_calls.specs.KeyLaws.{same_equal}
use Rattle.skk_calls.specs.Learning.{annotated_cands, annotated}
use Rattle.skk_calls.specs.Rows.{Cand, Row, same_text, has_text, texts_differ, is_word, is_cand, is_row}
use Rattle.skk_calls.specs.Rows.{words_of}
use Rattle.skk_calls.specs.RowLaws.{row_from_parts, row_parts}

module _ (cand : Cand) where
  -- candidates with a note for the word of one are candidates
  pub cands_annotated : (cands : List Cand) → is_cand cand ≡ true → list_all is_cand cands ≡ true
      → list_all is_cand (annotated_cands cands cand) ≡ true
  cands_annotated [] e all = grind arith
  cands_annotated (first ∷ cands) e all =
      grind (arith, same_equal first.word cand.word, cands_annotated cands)

  -- there are some
  pub some_annotated : (cands : List Cand) → not (is_empty (annotated_cands cands cand)) ≡ true
  some_annotated [] = refl
  some_annotated (first ∷ cands) = grind arith

  -- a word that they have not, and that is another, they still have not
  has_annotated : (cands : List Cand) (word : List ℕ) → has_text (words_of cands) word ≡ false
      → same_text word cand.word ≡ false → has_text (words_of (annotated_cands cands cand)) word ≡ false
  has_annotated [] word e other = grind arith
  has_annotated (first ∷ cands) word e other = grind (arith, has_annotated cands word)

  -- their words differ
  pub words_annotated : (cands : List Cand) → texts_differ (words_of cands) ≡ true
      → texts_differ (words_of (annotated_cands cands cand)) ≡ true
  words_annotated [] e = refl
  words_annotated (first ∷ cands) e =
      grind (
        arith,
        differ_parts first.word (words_of cands),
        has_annotated cands first.word,
        differ_from first.word (words_of (annotated_cands cands cand)),
        words_annotated cands,
      )

module _ (row : Row) (cand : Cand) (stamp : ℕ) (is : is_row row ≡ true) (cand_is : is_cand cand ≡ true) where
  -- the row after an annotation
  abbrev after : Row
  after = annotated (Some row) row.key cand stamp

  -- it is a row
  pub annotated_row : is_row after ≡ true
  annotated_row =
      let parts = row_parts row is in
      row_from_parts after (record {
        key = parts.key;
        cands = cands_annotated cand row.cands cand_is parts.cands;
        words = words_annotated cand row.cands parts.words;
        part = parts.part;
        blocks = parts.blocks;
        okuri = parts.okuri;
        hides =
            all_pairs-filter (λ text other. not (same_text text other)) (λ other. not (same_text other cand.word))
            row.hides parts.hides;
      })

  -- and a good one where the row before is, and its line is not too long
  pub annotated_good : is_good row ≡ true → nat_le (byte_len (canonical after)) line_limit ≡ true
      → is_good after ≡ true
  annotated_good good short =
      grind (
        arith,
        some_annotated cand row.cands,
        list_all-filter is_word (λ other. not (same_text other cand.word)) row.hides,
      )
