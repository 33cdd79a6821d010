-- A dictionary with itself and without itself.
use Rattle.std.proofs.Common.{◌≡◌, ◌∙◌, ℕ, true, not, None, Some, List, [], ◌∷◌, ◌++◌, map, refl}
use Rattle.std.proofs.Common.{sym, ap}
use Rattle.std.proofs.Common.{arith}
use Rattle.std.specs.List.{filter, filter_map, list_all}
use Rattle.std.proofs.lemmas.List.{append-nil}
use Rattle.skk_text.specs.PairsLaws.{list_all-weaker}
use Rattle.ordered_lists.specs.OrderLaws.{list_all-sort_by}
use Rattle.skk_calls.specs.Found.{block_of, without_hidden}
use Rattle.skk_calls.specs.KeyLaws.{same_itself, same_key_itself}
use Rattle.skk_calls.specs.Orders.{row_less}
use Rattle.skk_calls.specs.RowLaws.{row_parts}
use Rattle.skk_calls.specs.Rows.{Block, Cand, Row, has_text, is_row, keys_differ, okuri_of, same_key, same_text}
use Rattle.skk_calls.specs.Rows.{texts_differ, words_of}
use Rattle.skk_calls.specs.States.{row_in}
use Rattle.dict_format.specs.PrintedFiles.{without_stamp}
use Rattle.dict_expr.proofs.ByKey.{order_differs, order_keeps}
use Rattle.dict_expr.specs.Books.{difference, in_order, rows_apart, sum}
use Rattle.dict_expr.specs.Rows.{block_with, blocks_with, blocks_without, joined, left_block, remaining}
use Rattle.dict_expr.specs.Rows.{block_without, row_with, texts_with, texts_without}

-- Texts

-- each text stands among all of them
has_all : (texts : List (List ℕ)) → list_all (has_text texts) texts ≡ true
has_all [] = refl
has_all (text ∷ texts) =
    grind (
      arith,
      same_itself text,
      list_all-weaker (has_text texts) (has_text (text ∷ texts)) (λ other has. grind (arith, has)) texts
          (has_all texts),
    )

-- texts without those among which they stand are none
none_left : (texts others : List (List ℕ)) → list_all (has_text others) texts ≡ true
    → texts_without texts others ≡ []
none_left [] others all = refl
none_left (text ∷ texts) others all = grind (arith, none_left texts others)

texts_gone : (texts : List (List ℕ)) → texts_without texts texts ≡ []
texts_gone texts = none_left texts texts (has_all texts)

texts_stay_so : (texts : List (List ℕ)) → texts_with texts texts ≡ texts
texts_stay_so texts = ap (λ more. texts ++ more) (texts_gone texts) ∙ append-nil texts

-- Candidates

cands_left : (cands : List Cand) (words : List (List ℕ)) → list_all (has_text words) (words_of cands) ≡ true
    → without_hidden words cands ≡ []
cands_left [] words all = refl
cands_left (cand ∷ cands) words all = grind (arith, cands_left cands words)

cands_gone : (cands : List Cand) → without_hidden (words_of cands) cands ≡ []
cands_gone cands = cands_left cands (words_of cands) (has_all (words_of cands))

cands_stay : (cands : List Cand) → cands ++ without_hidden (words_of cands) cands ≡ cands
cands_stay cands = ap (λ more. cands ++ more) (cands_gone cands) ∙ append-nil cands

-- Blocks

-- a block of another okurigana in front changes nothing
skip_block : (first : Block) (blocks some : List Block)
    → list_all (λ okuri. not (same_text first.okuri okuri)) (okuri_of some) ≡ true
    → map (λ (b : Block). block_of b.okuri (first ∷ blocks)) some ≡ map (λ (b : Block). block_of b.okuri blocks) some
skip_block first blocks [] all = refl
skip_block first blocks (block ∷ some) all = grind (arith, skip_block first blocks some)

-- where okurigana differ, each block is the one of its own
own_blocks : (blocks : List Block) → texts_differ (okuri_of blocks) ≡ true
    → map (λ (b : Block). block_of b.okuri blocks) blocks ≡ map Some blocks
own_blocks [] differ = refl
own_blocks (block ∷ blocks) differ =
    grind (arith, same_itself block.okuri, skip_block block blocks blocks, own_blocks blocks)

-- a block with and without its own words
same_block : (others : List Block) (block : Block) → block_of block.okuri others ≡ Some block
    → block_with others block ≡ block
same_block others block own = grind (arith, own, texts_stay_so block.words)

gone_block : (others : List Block) (block : Block) → block_of block.okuri others ≡ Some block
    → left_block (block_without others block) ≡ None
gone_block others block own = grind (arith, own, texts_gone block.words)

each_same : (others blocks : List Block) → map (λ (b : Block). block_of b.okuri others) blocks ≡ map Some blocks
    → map (block_with others) blocks ≡ blocks
each_same others [] own = refl
each_same others (block ∷ blocks) own =
    grind (arith, same_block others block (grind arith), each_same others blocks (grind arith))

each_gone : (others blocks : List Block) → map (λ (b : Block). block_of b.okuri others) blocks ≡ map Some blocks
    → blocks_without blocks others ≡ []
each_gone others [] own = refl
each_gone others (block ∷ blocks) own =
    grind (arith, gone_block others block (grind arith), each_gone others blocks (grind arith))

apart_left : (blocks : List Block) (texts : List (List ℕ)) → list_all (has_text texts) (okuri_of blocks) ≡ true
    → filter (λ (block : Block). not (has_text texts block.okuri)) blocks ≡ []
apart_left [] texts all = refl
apart_left (block ∷ blocks) texts all = grind (arith, apart_left blocks texts)

blocks_stay : (blocks : List Block) → texts_differ (okuri_of blocks) ≡ true → blocks_with blocks blocks ≡ blocks
blocks_stay blocks differ =
    ap (λ more. map (block_with blocks) blocks ++ more)
    (apart_left blocks (okuri_of blocks) (has_all (okuri_of blocks)))
    ∙ append-nil (map (block_with blocks) blocks)
    ∙ each_same blocks blocks (own_blocks blocks differ)

blocks_gone : (blocks : List Block) → texts_differ (okuri_of blocks) ≡ true → blocks_without blocks blocks ≡ []
blocks_gone blocks differ = each_gone blocks blocks (own_blocks blocks differ)

-- Rows

row_stays : (row : Row) → is_row row ≡ true → row_with row row ≡ without_stamp row
row_stays row is =
    cc (cands_stay row.cands, blocks_stay row.blocks (row_parts row is).okuri, texts_stay_so row.hides)

row_gone : (row : Row) → is_row row ≡ true → remaining row (Some row) ≡ None
row_gone row is =
    grind (arith, cands_gone row.cands, blocks_gone row.blocks (row_parts row is).okuri, texts_gone row.hides)

-- where keys differ, each row is the one of its own
skip_row : (first : Row) (rows some : List Row) → list_all (λ row. not (same_key first.key row.key)) some ≡ true
    → map (λ (r : Row). row_in r.key (first ∷ rows)) some ≡ map (λ (r : Row). row_in r.key rows) some
skip_row first rows [] all = refl
skip_row first rows (row ∷ some) all = grind (arith, skip_row first rows some)

own_rows : (rows : List Row) → keys_differ rows ≡ true → map (λ (r : Row). row_in r.key rows) rows ≡ map Some rows
own_rows [] differ = refl
own_rows (row ∷ rows) differ =
    grind (arith, same_key_itself row.key, skip_row row rows rows, own_rows rows)

-- so it is among rows in order
kept_rows : (rows some : List Row) → keys_differ rows ≡ true
    → map (λ (r : Row). row_in r.key (in_order rows)) some ≡ map (λ (r : Row). row_in r.key rows) some
kept_rows rows [] differ = refl
kept_rows rows (row ∷ some) differ = cc (order_keeps row.key rows differ, kept_rows rows some differ)

ordered_own : (rows : List Row) → keys_differ rows ≡ true
    → map (λ (r : Row). row_in r.key rows) (in_order rows) ≡ map Some (in_order rows)
ordered_own rows differ =
    sym (kept_rows rows (in_order rows) differ) ∙ own_rows (in_order rows) (order_differs rows differ)

module _ (others : List Row) where
  all_stay : (rows : List Row) → list_all is_row rows ≡ true
      → map (λ (r : Row). row_in r.key others) rows ≡ map Some rows
      → map (λ row. joined row (row_in row.key others)) rows ≡ map without_stamp rows
  all_stay [] are own = refl
  all_stay (row ∷ rows) are own =
      grind (arith, row_stays row (grind arith), all_stay rows (grind arith) (grind arith))

  all_gone : (rows : List Row) → list_all is_row rows ≡ true
      → map (λ (r : Row). row_in r.key others) rows ≡ map Some rows
      → filter_map (λ row. remaining row (row_in row.key others)) rows ≡ []
  all_gone [] are own = refl
  all_gone (row ∷ rows) are own =
      grind (arith, row_gone row (grind arith), all_gone rows (grind arith) (grind arith))

  none_apart : (rows : List Row) → map (λ (r : Row). row_in r.key others) rows ≡ map Some rows
      → rows_apart rows others ≡ []
  none_apart [] own = refl
  none_apart (row ∷ rows) own = grind (arith, none_apart rows (grind arith))

-- with itself a dictionary has its rows
pub sum_itself : (rows : List Row) → keys_differ rows ≡ true → list_all is_row rows ≡ true
    → sum rows rows ≡ map without_stamp (in_order rows)
sum_itself rows differ are =
    let own = ordered_own rows differ in
    ap (λ more. map (λ row. joined row (row_in row.key rows)) (in_order rows) ++ map without_stamp more)
    (none_apart rows (in_order rows) own)
    ∙ append-nil (map (λ row. joined row (row_in row.key rows)) (in_order rows))
    ∙ all_stay rows (in_order rows) (list_all-sort_by row_less is_row rows are) own

-- and without itself none
pub difference_itself : (rows : List Row) → keys_differ rows ≡ true → list_all is_row rows ≡ true
    → difference rows rows ≡ []
difference_itself rows differ are =
    all_gone rows (in_order rows) (list_all-sort_by row_less is_row rows are) (ordered_own rows differ)
