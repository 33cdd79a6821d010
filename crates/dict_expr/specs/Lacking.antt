-- A row that has no word of another.
use Rattle.std.specs.Prelude.{ℕ, Bool, true, ◌&&◌, not, Option, None, Some, List}
use Rattle.std.specs.List.{list_all}
use Rattle.skk_calls.specs.Rows.{Block, Row, has_text, words_of}
use Rattle.dict_expr.specs.Rows.{words_for}

-- no text stands among others
abbrev pub none_among : List (List ℕ) → List (List ℕ) → Bool
none_among others texts = list_all (λ text. not (has_text others text)) texts

-- a block has no word that blocks have for its okurigana
abbrev pub block_lacks : List Block → Block → Bool
block_lacks others block = none_among (words_for others block.okuri) block.words

-- a row has no candidate of a word of another, no word of its blocks, and none of its hidden words
abbrev pub row_lacks : Row → Option Row → Bool
row_lacks row None = true
row_lacks row (Some other) =
    none_among (words_of other.cands) (words_of row.cands)
    && (list_all (block_lacks other.blocks) row.blocks && none_among other.hides row.hides)
