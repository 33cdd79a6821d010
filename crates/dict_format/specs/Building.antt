-- What the parts of a row are while its items are gone through.
use Rattle.std.specs.Prelude.{◌≡◌, not, ℕ, Bool, true, false, if◌then◌else◌, List, [], map}
use Rattle.std.specs.List.{filter, flat_map}
use Rattle.skk_text.specs.Lists.{is_empty}
use Rattle.skk_calls.specs.Found.{first_of_each}
use Rattle.skk_calls.specs.Rows.{Cand, Block, is_okuri}
use Rattle.word_sets.specs.Firsts.{with_new}
use Rattle.word_sets.specs.Strings.{as_cand}
use Rattle.dict_format.specs.declared.row.Parts.{Parts}
use Rattle.dict_format.specs.Items.{Item}
use Rattle.dict_format.specs.Items.Item.{candidate, block, mark}
use Rattle.dict_format.specs.RowOfItems.{words_once, words_with, has_word, cand_in, block_in, hidden_in}

-- the first candidate of each word that is not empty
abbrev pub cands_once : List Cand → List Cand
cands_once cands = first_of_each (λ cand. cand.word) [] (filter (λ cand. not (is_empty cand.word)) cands)

-- an item is a candidate
abbrev pub is_candidate : Item → Bool
is_candidate (candidate word note) = true
is_candidate (block okuri words) = false
is_candidate (mark words) = false

-- candidates with that of one more item, where it is one whose word is not empty and a new one
abbrev pub with_item : List Cand → Item → List Cand
with_item cands (candidate word note) =
    if is_empty word then cands else with_new (λ (cand : Cand). cand.word) cands (as_cand (word, note))
with_item cands (block okuri words) = cands
with_item cands (mark words) = cands

-- the okurigana of blocks in the order of the first of each, with the words of each
abbrev pub joined_words : List Block → List (List ℕ × List (List ℕ))
joined_words blocks =
    map (λ first. (first.okuri, words_once (words_with first.okuri blocks)))
    (first_of_each (λ b. b.okuri) [] blocks)

-- the block of an okurigana and its words
abbrev pub as_block : List ℕ × List (List ℕ) → Block
as_block pair = record { okuri = pair.0; words = pair.1 }

-- the blocks of okurigana that are valid
abbrev pub valid_blocks : List (List ℕ × List (List ℕ)) → List Block
valid_blocks pairs = filter (λ b. is_okuri b.okuri) (map as_block pairs)

-- what items say
pub record SaysItems (parts : Parts) (items : List Item) : Type 0 where
  pub cands : map as_cand parts.cands ≡ cands_once (flat_map cand_in items)
  pub blocks : parts.blocks ≡ joined_words (filter has_word (flat_map block_in items))
  pub hides : parts.hides ≡ words_once (flat_map hidden_in items)
