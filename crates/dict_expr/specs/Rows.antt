-- The sum and the difference of two dictionaries, key by key.
use Rattle.std.specs.Prelude.{ℕ, Bool, ◌&&◌, not, if◌then◌else◌, Option, None, Some, List, [], ◌++◌, map}
use Rattle.std.specs.List.{filter, filter_map}
use Rattle.skk_text.specs.Lists.{is_empty}
use Rattle.skk_calls.specs.Found.{block_of, without_hidden}
use Rattle.skk_calls.specs.Rows.{Block, Row, has_text, words_of, okuri_of}
use Rattle.dict_format.specs.PrintedFiles.{without_stamp}

-- texts without those of others
abbrev pub texts_without : List (List ℕ) → List (List ℕ) → List (List ℕ)
texts_without texts others = filter (λ text. not (has_text others text)) texts

-- texts, and behind them those of others that they lack
abbrev pub texts_with : List (List ℕ) → List (List ℕ) → List (List ℕ)
texts_with texts others = texts ++ texts_without others texts

-- the words of a block, none where there is no block
abbrev pub words_in : Option Block → List (List ℕ)
words_in None = []
words_in (Some block) = block.words

-- the words that blocks have for an okurigana
abbrev pub words_for : List Block → List ℕ → List (List ℕ)
words_for blocks okuri = words_in (block_of okuri blocks)

-- a block, and behind its words those that other blocks have for its okurigana and it lacks
abbrev pub block_with : List Block → Block → Block
block_with others block =
    record { okuri = block.okuri; words = texts_with block.words (words_for others block.okuri) }

-- a block without the words that other blocks have for its okurigana
abbrev pub block_without : List Block → Block → Block
block_without others block =
    record { okuri = block.okuri; words = texts_without block.words (words_for others block.okuri) }

-- the blocks whose okurigana have none among others
abbrev pub blocks_apart : List Block → List Block → List Block
blocks_apart blocks others = filter (λ block. not (has_text (okuri_of others) block.okuri)) blocks

-- blocks, each with the words that others have for its okurigana, and behind them the others of which they have none
abbrev pub blocks_with : List Block → List Block → List Block
blocks_with blocks others = map (block_with others) blocks ++ blocks_apart others blocks

-- a block, unless no word is left in it
abbrev pub left_block : Block → Option Block
left_block block = if is_empty block.words then None else Some block

-- blocks, each without the words that others have for its okurigana, as far as words are left in them
abbrev pub blocks_without : List Block → List Block → List Block
blocks_without blocks others = filter_map (λ block. left_block (block_without others block)) blocks

-- a row with another: its candidates and those of the other whose words it lacks, its blocks with those of the other,
-- and its hidden words and those of the other that it lacks
abbrev pub row_with : Row → Row → Row
row_with row other = record {
  key = row.key;
  cands = row.cands ++ without_hidden (words_of row.cands) other.cands;
  blocks = blocks_with row.blocks other.blocks;
  hides = texts_with row.hides other.hides;
  stamp = 0;
}

-- a row without another: without the candidates of the other's words, without the words of its blocks, and without its
-- hidden words
abbrev pub row_without : Row → Row → Row
row_without row other = record {
  key = row.key;
  cands = without_hidden (words_of other.cands) row.cands;
  blocks = blocks_without row.blocks other.blocks;
  hides = texts_without row.hides other.hides;
  stamp = 0;
}

-- a row says nothing: it has no candidate, no block and no hidden word
abbrev pub says_nothing : Row → Bool
says_nothing row = is_empty row.cands && (is_empty row.blocks && is_empty row.hides)

-- a row, unless it says nothing
abbrev pub unless_nothing : Row → Option Row
unless_nothing row = if says_nothing row then None else Some row

-- a row with what may stand for its key elsewhere
abbrev pub joined : Row → Option Row → Row
joined row None = without_stamp row
joined row (Some other) = row_with row other

-- what is left of a row without what may stand for its key elsewhere
abbrev pub remaining : Row → Option Row → Option Row
remaining row None = Some (without_stamp row)
remaining row (Some other) = unless_nothing (row_without row other)

-- the row of a key in the sum of two dictionaries, by its rows in them: that of the one that has it, and where both
-- have it, the first with the second
abbrev pub plus_row : Option Row → Option Row → Option Row
plus_row None None = None
plus_row None (Some other) = Some (without_stamp other)
plus_row (Some row) other = Some (joined row other)

-- the row of a key in the difference of two dictionaries: that of the first as it is where the second has none, and
-- else without what the second has, unless nothing is left
abbrev pub minus_row : Option Row → Option Row → Option Row
minus_row None other = None
minus_row (Some row) other = remaining row other
