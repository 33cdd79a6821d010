-- What is left of a dictionary without another has no word of it.
use Rattle.std.proofs.Common.{◌≡◌, ◌∙◌, ℕ, true, false, Bool, not, Option, None, Some, List, [], ◌∷◌, refl, sym, ap}
use Rattle.std.proofs.Common.{arith}
use Rattle.std.specs.List.{list_all}
use Rattle.skk_text.specs.FilterLaws.{list_all_kept}
use Rattle.skk_text.specs.Lists.{is_empty}
use Rattle.skk_calls.specs.Found.{without_hidden}
use Rattle.skk_calls.specs.Rows.{Block, Cand, Row, has_text, words_of}
use Rattle.skk_calls.specs.States.{row_in}
use Rattle.dict_expr.proofs.Keeping.{words_without}
use Rattle.dict_expr.proofs.Kept.{left_all, remaining_key}
use Rattle.dict_expr.specs.Books.{difference, in_order}
use Rattle.dict_expr.specs.Lacking.{block_lacks, none_among, row_lacks}
use Rattle.dict_expr.specs.Rows.{blocks_without, remaining, row_without, texts_without, unless_nothing}
use Rattle.dict_expr.specs.Rows.{words_for}

-- texts without others have none of these
texts_lack : (texts others : List (List ℕ)) → none_among others (texts_without texts others) ≡ true
texts_lack texts others = list_all_kept (λ text. not (has_text others text)) texts

cands_lack : (hidden : List (List ℕ)) (cands : List Cand)
    → none_among hidden (words_of (without_hidden hidden cands)) ≡ true
cands_lack hidden cands =
    ap (none_among hidden) (words_without hidden cands) ∙ texts_lack (words_of cands) hidden

blocks_lack : (others blocks : List Block) → list_all (block_lacks others) (blocks_without blocks others) ≡ true
blocks_lack others [] = refl
blocks_lack others (block ∷ blocks) =
    by (is_empty (texts_without block.words (words_for others block.okuri))) refl (blocks_lack others blocks)
  where
    by : (b : Bool) → is_empty (texts_without block.words (words_for others block.okuri)) ≡ b
        → list_all (block_lacks others) (blocks_without blocks others) ≡ true
        → list_all (block_lacks others) (blocks_without (block ∷ blocks) others) ≡ true
    by true e later = grind (arith, e, later)
    by false e later =
        let here = texts_lack block.words (words_for others block.okuri) in grind (arith, e, here, later)

-- a row without another has no word of it
without_lacks : (row other : Row) → row_lacks (row_without row other) (Some other) ≡ true
without_lacks row other =
    cc (
      cands_lack (words_of other.cands) row.cands,
      blocks_lack other.blocks row.blocks,
      texts_lack row.hides other.hides,
    )

unless_lacks : (row left : Row) (other : Option Row) → row_lacks row other ≡ true → unless_nothing row ≡ Some left
    → row_lacks left other ≡ true
unless_lacks row left other lacks e =
    let is : row ≡ left = grind (arith, e) in ap (λ (r : Row). row_lacks r other) (sym is) ∙ lacks

left_lacks : (row : Row) (other : Option Row) (left : Row) → remaining row other ≡ Some left
    → row_lacks left other ≡ true
left_lacks row None left e = refl
left_lacks row (Some other) left e = unless_lacks (row_without row other) left (Some other) (without_lacks row other) e

pub difference_lacks : (rows others : List Row)
    → list_all (λ row. row_lacks row (row_in row.key others)) (difference rows others) ≡ true
difference_lacks rows others =
    left_all (λ row. remaining row (row_in row.key others)) (λ row. true)
    (λ row. row_lacks row (row_in row.key others)) one (in_order rows) (all_true (in_order rows))
  where
    one : (row left : Row) → true ≡ true → remaining row (row_in row.key others) ≡ Some left
        → row_lacks left (row_in left.key others) ≡ true
    one row left here e =
        ap (λ key. row_lacks left (row_in key others)) (remaining_key row (row_in row.key others) left e)
        ∙ left_lacks row (row_in row.key others) left e

    all_true : (some : List Row) → list_all (λ row. true) some ≡ true
    all_true [] = refl
    all_true (row ∷ some) = all_true some
