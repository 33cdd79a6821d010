-- The row that the items of a line make.
use Rattle.std.specs.Prelude.{not, ℕ, ◌+◌, Bool, ◌||◌, nat_le, List, [], ◌∷◌, map}
use Rattle.std.specs.List.{filter, flat_map, list_all, list_any}
use Rattle.skk_text.specs.Lists.{is_empty}
use Rattle.skk_text.specs.Text.{byte_len}
use Rattle.skk_calls.specs.Rows.{RowKey, Cand, Block, Row, same_text, is_okuri, word_limit}
use Rattle.skk_calls.specs.Found.{first_of_each}
use Rattle.dict_format.specs.Items.{Item}
use Rattle.dict_format.specs.Items.Item.{candidate, block, mark}

-- a word that is not too long
abbrev pub fits : List ℕ → Bool
fits word = nat_le (byte_len word) word_limit

-- a candidate whose word and note together are not too long, or a block or mark of which each word is not
abbrev pub item_fits : Item → Bool
item_fits (candidate word note) = nat_le (byte_len word + byte_len note) word_limit
item_fits (block okuri words) = list_all fits words
item_fits (mark words) = list_all fits words

-- the words that are not empty
abbrev pub not_empty : List (List ℕ) → List (List ℕ)
not_empty words = filter (λ word. not (is_empty word)) words

-- each word once that is not empty, in the order of the first of each
abbrev pub words_once : List (List ℕ) → List (List ℕ)
words_once words = first_of_each (λ word. word) [] (not_empty words)

-- the candidate that an item is, as a list
abbrev pub cand_in : Item → List Cand
cand_in (candidate word note) = record { word = word; note = note } ∷ []
cand_in item = []

-- the block that an item is, as a list
abbrev pub block_in : Item → List Block
block_in (block okuri words) = record { okuri = okuri; words = words } ∷ []
block_in item = []

-- the words that an item hides
abbrev pub hidden_in : Item → List (List ℕ)
hidden_in (mark words) = words
hidden_in item = []

-- the words of every block of an okurigana
abbrev pub words_with : List ℕ → List Block → List (List ℕ)
words_with okuri blocks = flat_map (λ b. b.words) (filter (λ b. same_text b.okuri okuri) blocks)

-- a block that has a word which is not empty
abbrev pub has_word : Block → Bool
has_word b = list_any (λ word. not (is_empty word)) b.words

-- one block of each okurigana, in the order of the first of each, which has each word of all of them once
abbrev pub joined_blocks : List Block → List Block
joined_blocks blocks =
    map (λ first. record { okuri = first.okuri; words = words_once (words_with first.okuri blocks) })
    (first_of_each (λ b. b.okuri) [] blocks)

-- the blocks of items: those that have a word, joined, of each valid okurigana
abbrev pub blocks_of_items : List Item → List Block
blocks_of_items items = filter (λ b. is_okuri b.okuri) (joined_blocks (filter has_word (flat_map block_in items)))

-- the row of a key and items, of stamp 0: the first candidate of each word that is not empty, the blocks, and each
-- hidden word that is not empty once
abbrev pub row_of_items : RowKey → List Item → Row
row_of_items key items = record {
  key = key;
  cands = first_of_each (λ cand. cand.word) [] (filter (λ cand. not (is_empty cand.word)) (flat_map cand_in items));
  blocks = blocks_of_items items;
  hides = words_once (flat_map hidden_in items);
  stamp = 0;
}

-- a row that has a candidate, a block or a hidden word
abbrev pub says_something : Row → Bool
says_something row = not (is_empty row.cands) || (not (is_empty row.blocks) || not (is_empty row.hides))
