-- The row that items make is a row.
use Rattle.std.proofs.Common.{◌≡◌, ℕ, ◌+◌, Bool, true, false, not, ◌&&◌, nat_le, List, [], ◌∷◌}
use Rattle.std.proofs.Common.{map, length, refl, sym, ap, ◌∙◌, arith}
use Rattle.std.specs.List.{list_all, list_any, filter, flat_map}
use Rattle.std.proofs.lemmas.Bool.{and_from, both_ways, le-leb}
use Rattle.std.proofs.lemmas.Bool.Decides.{nat_tests}
use Rattle.std.proofs.lemmas.List.Folds.{list_all-append, list_all-map, list_any-append}
use Rattle.skk_text.specs.FilterLaws.{list_all_kept}
use Rattle.skk_text.specs.Lists.{is_empty}
use Rattle.skk_text.specs.PairsLaws.{all_pairs-filter, all_pairs-map, list_all-filter, list_all-kept, list_all-weaker}
use Rattle.skk_text.specs.Text.{byte_len}
use Rattle.skk_calls.specs.KeyLaws.{same_itself}
use Rattle.skk_calls.specs.RowLaws.{row_from_parts}
use Rattle.skk_calls.specs.Rows.{RowKey, Cand, Block, same_text, texts_differ, is_row_key, is_word, is_cand, is_note}
use Rattle.skk_calls.specs.Rows.{is_okuri, is_block, is_row, fits_blocks, word_limit}
use Rattle.skk_calls.specs.Found.{first_of_each}
use Rattle.word_sets.specs.FirstLaws.{first_of_each-all, first_of_each-differ, texts_stay}
use Rattle.dict_format.specs.Items.{Item}
use Rattle.dict_format.specs.Items.Item.{candidate, block, mark}
use Rattle.dict_format.specs.RowOfItems.{fits, item_fits, words_once, words_with, blocks_of_items, has_word, cand_in}
use Rattle.dict_format.specs.RowOfItems.{block_in, hidden_in, row_of_items}

-- a note that may stand in an item
abbrev pub has_note : Item → Bool
has_note (candidate word note) = is_note note
has_note (block okuri words) = true
has_note (mark words) = true

-- a text that is not empty has a character
pub some-longer : (text : List ℕ) → not (is_empty text) ≡ true → nat_le 1 (length text) ≡ true
some-longer [] e = cc
some-longer (c ∷ text) e = le-leb 1 (length (c ∷ text)) (omega arith)

-- Candidates

-- a note that may stand in an item, and is short enough with its word
abbrev has_rest : Cand → Bool
has_rest c = is_note c.note && nat_le (byte_len c.word + byte_len c.note) word_limit

cands_rest : (items : List Item) → list_all item_fits items ≡ true → list_all has_note items ≡ true
    → list_all has_rest (flat_map cand_in items) ≡ true
cands_rest [] fit noted = refl
cands_rest (item ∷ items) fit noted = grind (arith, cands_rest items)

-- Words

-- some word is not empty
abbrev some_word : List (List ℕ) → Bool
some_word words = list_any (λ word. not (is_empty word)) words

words_valid : (words : List (List ℕ)) → list_all fits words ≡ true → list_all is_word (words_once words) ≡ true
words_valid words fit =
    first_of_each-all (λ word. word) is_word (filter (λ word. not (is_empty word)) words)
    (list_all-kept fits (λ word. not (is_empty word)) is_word
    (λ word short some. and_from (nat_le 1 (length word)) (fits word) (some-longer word some) short) words fit)

words_differ : (words : List (List ℕ)) → texts_differ (words_once words) ≡ true
words_differ words =
    ap texts_differ (sym (texts_stay (words_once words)))
    ∙ first_of_each-differ (λ word. word) (filter (λ word. not (is_empty word)) words)

words_some : (words : List (List ℕ)) → some_word words ≡ true → nat_le 1 (length (words_once words)) ≡ true
words_some [] e = absurd (both_ways false refl e)
words_some (w ∷ words) e = grind (arith, some-longer, words_some words, nat_tests)

-- Blocks

-- the words of a block fit
abbrev block_fits : Block → Bool
block_fits b = list_all fits b.words

blocks_fit : (items : List Item) → list_all item_fits items ≡ true
    → list_all block_fits (flat_map block_in items) ≡ true
blocks_fit [] fit = refl
blocks_fit (item ∷ items) fit = grind (arith, blocks_fit items)

-- the words with an okurigana fit
words_with_fit : (okuri : List ℕ) (blocks : List Block) → list_all block_fits blocks ≡ true
    → list_all fits (words_with okuri blocks) ≡ true
words_with_fit okuri blocks fit =
    joined (filter (λ b. same_text b.okuri okuri) blocks)
    (list_all-filter block_fits (λ b. same_text b.okuri okuri) blocks fit)
  where
    joined : (bs : List Block) → list_all block_fits bs ≡ true → list_all fits (flat_map (λ b. b.words) bs) ≡ true
    joined [] all = refl
    joined (b ∷ bs) all = grind (arith, list_all-append fits b.words (flat_map (λ c. c.words) bs), joined bs)

-- each block that has a word gives its okurigana one
more_words : (b : Block) (blocks : List Block) (okuri : List ℕ) → some_word (words_with okuri blocks) ≡ true
    → some_word (words_with okuri (b ∷ blocks)) ≡ true
more_words b blocks okuri some =
    grind (arith, list_any-append (λ word. not (is_empty word)) b.words (words_with okuri blocks))

each_has : (blocks : List Block) → list_all has_word blocks ≡ true
    → list_all (λ b. some_word (words_with b.okuri blocks)) blocks ≡ true
each_has [] all = refl
each_has (b ∷ blocks) all =
    let rest = list_all-weaker (λ c. some_word (words_with c.okuri blocks))
    (λ c. some_word (words_with c.okuri (b ∷ blocks))) (λ c. more_words b blocks c.okuri) blocks
    (each_has blocks (grind arith)) in
    let own = list_any-append (λ word. not (is_empty word)) b.words (words_with b.okuri blocks) in
    grind (arith, own, same_itself b.okuri)

-- a block as it is joined with the others of its okurigana
abbrev pub joined : List Block → Block → Block
joined blocks first = record { okuri = first.okuri; words = words_once (words_with first.okuri blocks) }

-- what a block keeps besides its okurigana
abbrev has_words : Block → Bool
has_words b = nat_le 1 (length b.words) && (list_all is_word b.words && texts_differ b.words)

-- so the joined blocks of valid okurigana are blocks
joined_valid : (blocks firsts : List Block) → list_all block_fits blocks ≡ true
    → list_all (λ b. some_word (words_with b.okuri blocks)) firsts ≡ true
    → list_all is_block (filter (λ b. is_okuri b.okuri)
    (map (λ first. record { okuri = first.okuri; words = words_once (words_with first.okuri blocks) }) firsts)) ≡ true
joined_valid blocks firsts fit have =
    list_all-kept has_words (λ b. is_okuri b.okuri) is_block (λ b words okuri. and_from _ (has_words b) okuri words)
    (map (joined blocks) firsts)
    (list_all-map has_words (joined blocks) firsts
    ∙ list_all-weaker (λ b. some_word (words_with b.okuri blocks)) (λ b. has_words (joined blocks b)) words_are
    firsts have)
  where
    words_are : (b : Block) → some_word (words_with b.okuri blocks) ≡ true → has_words (joined blocks b) ≡ true
    words_are b some =
        let words = words_with b.okuri blocks in
        let valid = words_valid words (words_with_fit b.okuri blocks fit) in
        grind (arith, words_some words some, valid, words_differ words)

-- Rows

-- items that fit, with notes that may stand in items, make a row of a valid key,
-- where they have no blocks in the okuri-nasi part
pub row_of_items-valid : (key : RowKey) (items : List Item) → is_row_key key ≡ true → list_all item_fits items ≡ true
    → list_all has_note items ≡ true
    → fits_blocks key.part (blocks_of_items items) ≡ true → is_row (row_of_items key items) ≡ true
row_of_items-valid key items valid fit noted part =
    let said = filter (λ (cand : Cand). not (is_empty cand.word)) (flat_map cand_in items) in
    let worded = filter has_word (flat_map block_in items) in
    let firsts = first_of_each (λ (b : Block). b.okuri) [] worded in
    let blocks : List Block = map (joined worded) firsts in
    let unlike : List ℕ → List ℕ → Bool = λ text other. not (same_text text other) in
    row_from_parts (row_of_items key items)
    (record {
      key = valid;
      cands =
          first_of_each-all (λ (cand : Cand). cand.word) is_cand said
          (list_all-kept has_rest (λ cand. not (is_empty cand.word)) is_cand
          (λ cand rest some. and_from (nat_le 1 (length cand.word)) _ (some-longer cand.word some) rest)
          (flat_map cand_in items) (cands_rest items fit noted));
      words = first_of_each-differ (λ (cand : Cand). cand.word) said;
      part = part;
      blocks =
          joined_valid worded firsts
          (list_all-filter block_fits has_word (flat_map block_in items) (blocks_fit items fit))
          (first_of_each-all (λ (b : Block). b.okuri) (λ b. some_word (words_with b.okuri worded)) worded
          (each_has worded (list_all_kept has_word (flat_map block_in items))));
      okuri =
          all_pairs-map (λ (b : Block). b.okuri) unlike (filter (λ (b : Block). is_okuri b.okuri) blocks)
          ∙ all_pairs-filter (λ b c. unlike b.okuri c.okuri) (λ (b : Block). is_okuri b.okuri) blocks
          (all_pairs-map (joined worded) (λ b c. unlike b.okuri c.okuri) firsts
          ∙ sym (all_pairs-map (λ (b : Block). b.okuri) unlike firsts)
          ∙ first_of_each-differ (λ (b : Block). b.okuri) worded);
      hides = words_differ (flat_map hidden_in items);
    })
