-- A row after a change, by its parts.
use Rattle.std.proofs.Common.{◌≡◌, ℕ, Option, List}
use Rattle.skk_calls.specs.Learning.{learnt, learnt_blocks, learnt_cands, purged, row_or_empty, without_text}
use Rattle.skk_calls.specs.Learning.{without_word, blocks_without, hides_with, annotated, annotated_cands}
use Rattle.skk_calls.specs.Rows.{RowKey, Cand, Block, Row}

-- the row after a candidate is learnt
pub learnt_parts : (before : Option Row) (key : RowKey) (okuri : Option (List ℕ)) (cand : Cand) (stamp : ℕ)
    (copy : RowKey) (cands : List Cand) (blocks : List Block) (hides : List (List ℕ))
    → copy ≡ key → cands ≡ learnt_cands (row_or_empty key before).cands cand
    → blocks ≡ learnt_blocks key.part okuri cand.word (row_or_empty key before).blocks
    → hides ≡ without_text cand.word (row_or_empty key before).hides
    → learnt before key okuri cand stamp
    ≡ record { key = copy; cands = cands; blocks = blocks; hides = hides; stamp = stamp }
learnt_parts before key okuri cand stamp copy cands blocks hides same first second third = cc

-- the row after a word is purged
pub purged_parts : (before : Option Row) (key : RowKey) (word : List ℕ) (stamp : ℕ) (copy : RowKey) (cands : List Cand)
    (blocks : List Block) (hides : List (List ℕ))
    → copy ≡ key → cands ≡ without_word word (row_or_empty key before).cands
    → blocks ≡ blocks_without word (row_or_empty key before).blocks
    → hides ≡ hides_with word (row_or_empty key before).hides
    → purged before key word stamp ≡ record { key = copy; cands = cands; blocks = blocks; hides = hides; stamp = stamp }
purged_parts before key word stamp copy cands blocks hides same first second third = cc

-- the row after a candidate is annotated
pub annotated_parts : (before : Option Row) (key : RowKey) (cand : Cand) (stamp : ℕ) (copy : RowKey) (cands : List Cand)
    (blocks : List Block) (hides : List (List ℕ))
    → copy ≡ key → cands ≡ annotated_cands (row_or_empty key before).cands cand
    → blocks ≡ (row_or_empty key before).blocks
    → hides ≡ without_text cand.word (row_or_empty key before).hides
    → annotated before key cand stamp
    ≡ record { key = copy; cands = cands; blocks = blocks; hides = hides; stamp = stamp }
annotated_parts before key cand stamp copy cands blocks hides same first second third = cc
