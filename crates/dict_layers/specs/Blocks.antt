-- The block of an okurigana, and the words of a block as candidates.
use Rattle.std.specs.Prelude.{ℕ, Option, None, Some, List, map}
use Rattle.skk_calls.specs.Found.{block_of, note_of}
use Rattle.skk_calls.specs.Rows.{Cand, Block}

-- the block of an okurigana that may not be there
abbrev pub block_for : Option (List ℕ) → List Block → Option Block
block_for None blocks = None
block_for (Some okuri) blocks = block_of okuri blocks

-- words with the notes that they have among candidates
abbrev pub with_notes : List Cand → List (List ℕ) → List Cand
with_notes cands words = map (λ word. record { word = word; note = note_of cands word }) words
