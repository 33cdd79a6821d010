-- The row of a line with one plain candidate.
use Rattle.std.proofs.Common.{◌≡◌, ℕ, ◌≤◌, true, not, ◌&&◌, ◌||◌, nat_le, List, [], ◌∷◌}
use Rattle.std.proofs.Common.{refl, sym, ap, subst, ◌∙◌, arith}
use Rattle.std.specs.List.{list_all}
use Rattle.std.proofs.lemmas.Bool.{and_from, le-leb}
use Rattle.skk_text.specs.Lists.{is_empty}
use Rattle.skk_text.specs.Text.{byte_len}
use Rattle.skk_calls.specs.declared.part.Part.{Part}
use Rattle.skk_calls.specs.declared.part.Part.TheVariants.{Nasi, Ari}
use Rattle.skk_calls.specs.Canonical.{canonical, is_good, line_limit}
use Rattle.skk_calls.specs.KeyLaws.{same_equal}
use Rattle.skk_calls.specs.Rows.{Block, Cand, Row, RowKey, fits_blocks, is_cand, is_row, is_row_key, is_word}
use Rattle.skk_calls.specs.Rows.{same_text}
use Rattle.learned_store.specs.Reading.{HasOneCand, is_line_row, parted_row}

no_blocks : (part : Part) → fits_blocks part [] ≡ true
no_blocks Nasi = refl
no_blocks Ari = refl

-- a key and a candidate make a row
one_cand_row : (key : RowKey) (cand : Cand) (stamp : ℕ) → is_row_key key ≡ true → is_cand cand ≡ true
    → is_row (record { key = key; cands = cand ∷ []; blocks = []; hides = []; stamp = stamp }) ≡ true
one_cand_row key cand stamp key_is cand_is = grind (arith, key_is, cand_is, no_blocks key.part)

module _ (row : Row) (part : Part) (key : RowKey) (cand : Cand) (stamp : ℕ) (cands : List Cand) (blocks : List Block)
    (hides : List (List ℕ)) (is : row ≡ record {
      key = key;
      cands = cands;
      blocks = blocks;
      hides = hides;
      stamp = stamp;
    }) (cands_is : cands ≡ cand ∷ []) (blocks_is : blocks ≡ []) (hides_is : hides ≡ []) where
  whole : row ≡ record { key = key; cands = cand ∷ []; blocks = []; hides = []; stamp = stamp }
  whole =
      grind (arith, is, cands_is, blocks_is, hides_is)

  -- they are all that it has
  pub has_one : key.part ≡ part → is_row_key key ≡ true → is_cand cand ≡ true → HasOneCand part stamp row
  has_one own key_valid cand_valid = record {
    valid = ap is_row whole ∙ one_cand_row key cand stamp key_valid cand_valid;
    part_is = ap (λ (r : Row). r.key.part) whole ∙ own;
    stamp_is = ap (λ (r : Row). r.stamp) whole;
    cand = cand;
    cands = ap (λ (r : Row). r.cands) whole;
    blocks = ap (λ (r : Row). r.blocks) whole;
    hides = ap (λ (r : Row). r.hides) whole;
  }

-- a row with one candidate is good, if its line is not too long
module _ (part : Part) (line : List ℕ) (stamp : ℕ) (row : Row) (one : HasOneCand part stamp row)
    (same : same_text (canonical row) line ≡ true) (fits : byte_len line ≤ line_limit) where
  own : canonical row ≡ line
  own = same_equal (canonical row) line same

  good : is_good row ≡ true
  good =
      let hides = list_all is_word row.hides in
      let blocks = list_all (λ (block : Block). list_all is_word block.words) row.blocks in
      let short = nat_le (byte_len (canonical row)) line_limit in
      let rest = not (is_empty row.blocks) || not (is_empty row.hides) in
      and_from (not (is_empty row.cands) || rest) (hides && (blocks && short))
      (subst (λ (cands : List Cand). (not (is_empty cands) || rest) ≡ true) (sym one.cands) refl)
      (and_from hides (blocks && short)
      (subst (λ (words : List (List ℕ)). list_all is_word words ≡ true) (sym one.hides) refl)
      (and_from blocks short
      (subst (λ (bs : List Block). list_all (λ block. list_all is_word block.words) bs ≡ true) (sym one.blocks) refl)
      (subst (λ (l : List ℕ). nat_le (byte_len l) line_limit ≡ true) (sym own)
      (le-leb (byte_len line) line_limit fits))))

  pub one_cand_line : (is_line_row stamp row ≡ true) × ((part, line) ≡ parted_row row)
  one_cand_line = (
    grind (arith, one.valid, good, one.stamp_is),
    ap (λ (p : Part). (p, line)) (sym one.part_is) ∙ ap (λ (l : List ℕ). (row.key.part, l)) (sym own),
  )
