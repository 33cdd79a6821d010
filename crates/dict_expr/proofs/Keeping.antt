-- What rows, blocks and texts keep in a sum and in a difference.
use Rattle.std.proofs.Common.{◌≡◌, ◌∙◌, ℕ, Bool, true, false, not, nat_le, List, [], ◌∷◌, ◌++◌, length, map, refl, sym}
use Rattle.std.proofs.Common.{ap, arith}
use Rattle.std.specs.List.{filter, fold, list_all}
use Rattle.std.proofs.lemmas.Bool.Decides.{nat_tests}
use Rattle.std.proofs.lemmas.List.{map-append}
use Rattle.std.proofs.lemmas.List.Folds.{list_all-append}
use Rattle.skk_text.specs.FilterLaws.{filter-map}
use Rattle.skk_text.specs.Lists.{is_empty}
use Rattle.skk_text.specs.PairsLaws.{all_pairs-filter, list_all-filter}
use Rattle.skk_calls.specs.declared.part.Part.{Part}
use Rattle.skk_calls.specs.declared.part.Part.TheVariants.{Nasi, Ari}
use Rattle.skk_calls.specs.Found.{without_hidden}
use Rattle.skk_calls.specs.RowLaws.{block_from_parts, block_parts, row_from_parts, row_parts}
use Rattle.skk_calls.specs.Rows.{Block, Cand, Row, RowKey, fits_blocks, has_text, is_block, is_cand, is_row, is_word}
use Rattle.skk_calls.specs.Rows.{okuri_of, same_part, same_text, texts_differ, words_of}
use Rattle.word_sets.specs.FirstLaws.{fold_new-apart, fold_new-differ, texts_stay}
use Rattle.word_sets.specs.Firsts.{with_new}
use Rattle.dict_format.specs.PrintedFiles.{without_stamp}
use Rattle.dict_expr.specs.Rows.{block_with, blocks_apart, blocks_with, blocks_without}
use Rattle.dict_expr.specs.Rows.{row_with, row_without, texts_with, texts_without, words_for}

-- Texts

abbrev same : List ℕ → List ℕ
same text = text

-- texts with others are what comes of these one by one
with_added : (texts others : List (List ℕ)) → texts_differ others ≡ true
    → fold (with_new same) texts others ≡ texts_with texts others
with_added texts others differ =
    fold_new-apart same texts others (ap texts_differ (texts_stay others) ∙ differ)
    ∙ ap (λ known. texts ++ filter (λ text. not (has_text known text)) others) (texts_stay texts)

-- so they differ
pub with_differ : (texts others : List (List ℕ)) → texts_differ texts ≡ true → texts_differ others ≡ true
    → texts_differ (texts_with texts others) ≡ true
with_differ texts others first second =
    ap texts_differ (sym (with_added texts others second))
    ∙ sym (ap texts_differ (texts_stay (fold (with_new same) texts others)))
    ∙ fold_new-differ same texts others (ap texts_differ (texts_stay texts) ∙ first)

-- what is left of texts differs
pub left_differ : (texts others : List (List ℕ)) → texts_differ texts ≡ true
    → texts_differ (texts_without texts others) ≡ true
left_differ texts others differ =
    all_pairs-filter (λ text other. not (same_text text other)) (λ text. not (has_text others text)) texts differ

-- what holds of texts and of others holds of both
pub with_all : (test : List ℕ → Bool) (texts others : List (List ℕ)) → list_all test texts ≡ true
    → list_all test others ≡ true → list_all test (texts_with texts others) ≡ true
with_all test texts others first second =
    grind (
      arith,
      list_all-append test texts (texts_without others texts),
      list_all-filter test (λ text. not (has_text texts text)) others second,
    )

-- Candidates

-- the words of candidates with others
pub words_with : (cands others : List Cand) → words_of (cands ++ without_hidden (words_of cands) others)
    ≡ texts_with (words_of cands) (words_of others)
words_with cands others =
    map-append (λ (cand : Cand). cand.word) cands (without_hidden (words_of cands) others)
    ∙ ap (λ words. words_of cands ++ words)
    (sym (filter-map (λ (cand : Cand). cand.word) (λ word. not (has_text (words_of cands) word)) others))

-- and without others
pub words_without : (hidden : List (List ℕ)) (cands : List Cand)
    → words_of (without_hidden hidden cands) ≡ texts_without (words_of cands) hidden
words_without hidden cands =
    sym (filter-map (λ (cand : Cand). cand.word) (λ word. not (has_text hidden word)) cands)

-- Blocks

-- what blocks have for an okurigana are words that differ
pub for_words : (blocks : List Block) (okuri : List ℕ) → list_all is_block blocks ≡ true
    → (list_all is_word (words_for blocks okuri) ≡ true) × (texts_differ (words_for blocks okuri) ≡ true)
for_words [] okuri all = (refl, refl)
for_words (block ∷ blocks) okuri all =
    by (same_text block.okuri okuri) refl (for_words blocks okuri (grind arith))
  where
    by : (b : Bool) → same_text block.okuri okuri ≡ b
        → (list_all is_word (words_for blocks okuri) ≡ true) × (texts_differ (words_for blocks okuri) ≡ true)
        → (list_all is_word (words_for (block ∷ blocks) okuri) ≡ true)
        × (texts_differ (words_for (block ∷ blocks) okuri) ≡ true)
    by true e later =
        let parts = block_parts block (grind arith) in
        (grind (arith, parts.words), grind (arith, parts.different))
    by false e later = (grind (arith, later.0), grind (arith, later.1))

-- a list that is not empty with more has an item
more_has : (texts others : List (List ℕ)) → nat_le 1 (length texts) ≡ true → nat_le 1 (length (texts ++ others)) ≡ true
more_has [] others e = cc
more_has (text ∷ texts) others e = grind (arith, nat_tests)

-- a block with words is one
pub block_more : (block : Block) (words : List (List ℕ)) → is_block block ≡ true → list_all is_word words ≡ true
    → texts_differ words ≡ true
    → is_block (record { okuri = block.okuri; words = texts_with block.words words }) ≡ true
block_more block words is all differ =
    let parts = block_parts block is in
    block_from_parts (record { okuri = block.okuri; words = texts_with block.words words })
    (record {
      okuri = parts.okuri;
      has_item = more_has block.words (texts_without words block.words) parts.has_item;
      words = with_all is_word block.words words parts.words all;
      different = with_differ block.words words parts.different differ;
    })

some_has : (words : List (List ℕ)) → is_empty words ≡ false → nat_le 1 (length words) ≡ true
some_has [] e = cc
some_has (text ∷ words) e = grind (arith, nat_tests)

-- a block without words is one, where some are left
pub block_less : (block : Block) (words : List (List ℕ)) → is_block block ≡ true
    → is_empty (texts_without block.words words) ≡ false
    → is_block (record { okuri = block.okuri; words = texts_without block.words words }) ≡ true
block_less block words is some =
    let parts = block_parts block is in
    block_from_parts (record { okuri = block.okuri; words = texts_without block.words words })
    (record {
      okuri = parts.okuri;
      has_item = some_has (texts_without block.words words) some;
      words = list_all-filter is_word (λ text. not (has_text words text)) block.words parts.words;
      different = left_differ block.words words parts.different;
    })

module _ (others : List Block) (are : list_all is_block others ≡ true) where
  each_with : (blocks : List Block) → list_all is_block blocks ≡ true
      → list_all is_block (map (block_with others) blocks) ≡ true
  each_with [] all = refl
  each_with (block ∷ blocks) all =
      let words = for_words others block.okuri are in
      grind (arith, block_more block (words_for others block.okuri) (grind arith) words.0 words.1, each_with blocks)

  -- blocks with others are blocks
  pub blocks_more : (blocks : List Block) → list_all is_block blocks ≡ true
      → list_all is_block (blocks_with blocks others) ≡ true
  blocks_more blocks all =
      grind (
        arith,
        each_with blocks all,
        list_all-append is_block (map (block_with others) blocks) (blocks_apart others blocks),
        list_all-filter is_block (λ block. not (has_text (okuri_of blocks) block.okuri)) others are,
      )

-- the okurigana of blocks with others
okuri_each : (others blocks : List Block) → okuri_of (map (block_with others) blocks) ≡ okuri_of blocks
okuri_each others [] = refl
okuri_each others (block ∷ blocks) = ap (λ texts. block.okuri ∷ texts) (okuri_each others blocks)

okuri_apart : (others blocks : List Block)
    → okuri_of (blocks_apart others blocks) ≡ texts_without (okuri_of others) (okuri_of blocks)
okuri_apart others blocks =
    sym (filter-map (λ (block : Block). block.okuri) (λ text. not (has_text (okuri_of blocks) text)) others)

pub okuri_with : (blocks others : List Block)
    → okuri_of (blocks_with blocks others) ≡ texts_with (okuri_of blocks) (okuri_of others)
okuri_with blocks others =
    map-append (λ (block : Block). block.okuri) (map (block_with others) blocks) (blocks_apart others blocks)
    ∙ ap (λ texts. texts ++ okuri_of (blocks_apart others blocks)) (okuri_each others blocks)
    ∙ ap (λ texts. okuri_of blocks ++ texts) (okuri_apart others blocks)

-- blocks without others are blocks
pub blocks_less : (others blocks : List Block) → list_all is_block blocks ≡ true
    → list_all is_block (blocks_without blocks others) ≡ true
blocks_less others [] all = refl
blocks_less others (block ∷ blocks) all =
    by (is_empty (texts_without block.words (words_for others block.okuri))) refl
    (blocks_less others blocks (grind arith))
  where
    by : (b : Bool) → is_empty (texts_without block.words (words_for others block.okuri)) ≡ b
        → list_all is_block (blocks_without blocks others) ≡ true
        → list_all is_block (blocks_without (block ∷ blocks) others) ≡ true
    by true e later = grind (arith, later)
    by false e later =
        grind (arith, later, block_less block (words_for others block.okuri) (grind arith) e)

-- their okurigana are those of some of them
okuri_all : (test : List ℕ → Bool) (others blocks : List Block) → list_all test (okuri_of blocks) ≡ true
    → list_all test (okuri_of (blocks_without blocks others)) ≡ true
okuri_all test others [] all = refl
okuri_all test others (block ∷ blocks) all = grind (arith, okuri_all test others blocks)

pub okuri_less : (others blocks : List Block) → texts_differ (okuri_of blocks) ≡ true
    → texts_differ (okuri_of (blocks_without blocks others)) ≡ true
okuri_less others [] differ = refl
okuri_less others (block ∷ blocks) differ =
    grind (
      arith,
      okuri_all (λ other. not (same_text block.okuri other)) others blocks,
      okuri_less others blocks,
    )

fits_with : (part other : Part) (blocks others : List Block) → same_part other part ≡ true
    → fits_blocks part blocks ≡ true → fits_blocks other others ≡ true
    → fits_blocks part (blocks_with blocks others) ≡ true
fits_with Nasi Nasi [] [] same first second = refl
fits_with Nasi Nasi [] (other ∷ others) same first second = cc
fits_with Nasi Nasi (block ∷ blocks) others same first second = cc
fits_with Nasi Ari blocks others same first second = cc
fits_with Ari other blocks others same first second = refl

fits_without : (part : Part) (blocks others : List Block) → fits_blocks part blocks ≡ true
    → fits_blocks part (blocks_without blocks others) ≡ true
fits_without Nasi [] others fits = refl
fits_without Nasi (block ∷ blocks) others fits = cc
fits_without Ari blocks others fits = refl

-- Rows

-- a row with another of its part is a row
pub with_is_row : (row other : Row) → is_row row ≡ true → is_row other ≡ true
    → same_part other.key.part row.key.part ≡ true → is_row (row_with row other) ≡ true
with_is_row row other first second same =
    let one = row_parts row first in
    let two = row_parts other second in
    row_from_parts (row_with row other)
    (record {
      key = one.key;
      cands =
          grind (
            arith,
            one.cands,
            list_all-append is_cand row.cands (without_hidden (words_of row.cands) other.cands),
            list_all-filter is_cand (λ cand. not (has_text (words_of row.cands) cand.word)) other.cands two.cands,
          );
      words =
          ap texts_differ (words_with row.cands other.cands)
          ∙ with_differ (words_of row.cands) (words_of other.cands) one.words two.words;
      part = fits_with row.key.part other.key.part row.blocks other.blocks same one.part two.part;
      blocks = blocks_more other.blocks two.blocks row.blocks one.blocks;
      okuri =
          ap texts_differ (okuri_with row.blocks other.blocks)
          ∙ with_differ (okuri_of row.blocks) (okuri_of other.blocks) one.okuri two.okuri;
      hides = with_differ row.hides other.hides one.hides two.hides;
    })

-- so are its parts together
pub made_with : (row other : Row) (key : RowKey) (cands : List Cand) (blocks : List Block) (hides : List (List ℕ))
    → is_row row ≡ true → is_row other ≡ true → same_part other.key.part row.key.part ≡ true → key ≡ row.key
    → cands ≡ row.cands ++ without_hidden (words_of row.cands) other.cands
    → blocks ≡ blocks_with row.blocks other.blocks → hides ≡ texts_with row.hides other.hides
    → is_row (record { key = key; cands = cands; blocks = blocks; hides = hides; stamp = 0 }) ≡ true
made_with row other key cands blocks hides first second same key_is cands_are blocks_are hides_are =
    let made : Row = record { key = key; cands = cands; blocks = blocks; hides = hides; stamp = 0 } in
    let parts : made ≡ row_with row other = cc in
    ap is_row parts ∙ with_is_row row other first second same

-- and a row without another is one
pub without_is_row : (row other : Row) → is_row row ≡ true → is_row (row_without row other) ≡ true
without_is_row row other first =
    let one = row_parts row first in
    row_from_parts (row_without row other)
    (record {
      key = one.key;
      cands =
          list_all-filter is_cand (λ cand. not (has_text (words_of other.cands) cand.word)) row.cands one.cands;
      words =
          ap texts_differ (words_without (words_of other.cands) row.cands)
          ∙ left_differ (words_of row.cands) (words_of other.cands) one.words;
      part = fits_without row.key.part row.blocks other.blocks one.part;
      blocks = blocks_less other.blocks row.blocks one.blocks;
      okuri = okuri_less other.blocks row.blocks one.okuri;
      hides = left_differ row.hides other.hides one.hides;
    })

pub made_without : (row other : Row) (key : RowKey) (cands : List Cand) (blocks : List Block) (hides : List (List ℕ))
    → is_row row ≡ true → key ≡ row.key → cands ≡ without_hidden (words_of other.cands) row.cands
    → blocks ≡ blocks_without row.blocks other.blocks → hides ≡ texts_without row.hides other.hides
    → is_row (record { key = key; cands = cands; blocks = blocks; hides = hides; stamp = 0 }) ≡ true
made_without row other key cands blocks hides first key_is cands_are blocks_are hides_are =
    let made : Row = record { key = key; cands = cands; blocks = blocks; hides = hides; stamp = 0 } in
    let parts : made ≡ row_without row other = cc in
    ap is_row parts ∙ without_is_row row other first

-- so is a row with stamp 0
pub stampless_is_row : (row : Row) → is_row row ≡ true → is_row (without_stamp row) ≡ true
stampless_is_row row first =
    let one = row_parts row first in
    row_from_parts (without_stamp row)
    (record {
      key = one.key;
      cands = one.cands;
      words = one.words;
      part = one.part;
      blocks = one.blocks;
      okuri = one.okuri;
      hides = one.hides;
    })
