-- What a row and its parts keep, each by its name.
use Rattle.std.proofs.Common.{◌≡◌, ℕ, true, nat_le, List, [], ◌∷◌, length}
use Rattle.std.proofs.Common.{arith}
use Rattle.std.specs.List.{list_all}
use Rattle.std.proofs.lemmas.Bool.Decides.{nat_tests}
use Rattle.skk_calls.specs.Found.{note_of}
use Rattle.skk_calls.specs.KeyLaws.{same_equal}
use Rattle.skk_calls.specs.Rows.{Cand, Block, Row, texts_differ, is_row_key, is_okuri, is_word}
use Rattle.skk_calls.specs.Rows.{is_cand, is_block, fits_blocks, words_of, okuri_of, is_row}

-- what a row keeps
pub record RowParts (row : Row) : Type 0 where
  pub key : is_row_key row.key ≡ true
  pub cands : list_all is_cand row.cands ≡ true
  pub words : texts_differ (words_of row.cands) ≡ true
  pub part : fits_blocks row.key.part row.blocks ≡ true
  pub blocks : list_all is_block row.blocks ≡ true
  pub okuri : texts_differ (okuri_of row.blocks) ≡ true
  pub hides : texts_differ row.hides ≡ true

-- a row is one by its parts
pub row_from_parts : (row : Row) → RowParts row → is_row row ≡ true
row_from_parts row parts = cc (parts.key, parts.cands, parts.words, parts.part, parts.blocks, parts.okuri, parts.hides)

-- a row has its parts
pub row_parts : (row : Row) → is_row row ≡ true → RowParts row
row_parts row e = record {
  key = grind arith;
  cands = grind arith;
  words = grind arith;
  part = grind arith;
  blocks = grind arith;
  okuri = grind arith;
  hides = grind arith;
}

-- what a block keeps
pub record BlockParts (block : Block) : Type 0 where
  pub okuri : is_okuri block.okuri ≡ true
  pub has_item : nat_le 1 (length block.words) ≡ true
  pub words : list_all is_word block.words ≡ true
  pub different : texts_differ block.words ≡ true

-- a block is one by its parts
pub block_from_parts : (block : Block) → BlockParts block → is_block block ≡ true
block_from_parts block parts = cc (parts.okuri, parts.has_item, parts.words, parts.different)

-- a block has its parts
pub block_parts : (block : Block) → is_block block ≡ true → BlockParts block
block_parts block e =
    record { okuri = grind arith; has_item = grind arith; words = grind arith; different = grind arith }

-- the word of a candidate is one
pub cand_word : (cand : Cand) → is_cand cand ≡ true → is_word cand.word ≡ true
cand_word cand e = grind (arith, nat_tests)

-- a word with the note that a candidate has for it is a candidate
pub cand_with_note_of : (cands : List Cand) (word : List ℕ) → is_word word ≡ true → list_all is_cand cands ≡ true
    → is_cand (record { word = word; note = note_of cands word }) ≡ true
cand_with_note_of [] word e all = grind (arith, nat_tests)
cand_with_note_of (cand ∷ cands) word e all =
    grind (arith, same_equal cand.word word, cand_with_note_of cands word)
