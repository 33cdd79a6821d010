-- A candidate that is learnt again.
use Rattle.std.proofs.Common.{◌≡◌, ℕ, Bool, true, false, cond, ◌||◌, arith, Option, None, Some, List, [], ◌∷◌, refl}
use Rattle.std.proofs.Common.{◌∙◌, ap}
use Rattle.skk_calls.specs.KeyLaws.{same_itself}
use Rattle.skk_calls.specs.declared.part.Part.{Part}
use Rattle.skk_calls.specs.declared.part.Part.TheVariants.{Nasi, Ari}
use Rattle.skk_text.specs.Lists.{is_empty}
use Rattle.skk_calls.specs.Found.{note_of}
use Rattle.skk_calls.specs.Learning.{without_text, without_word, is_own_note, learnt_note, learnt_cands}
use Rattle.skk_calls.specs.Learning.{blocks_with_word}
use Rattle.skk_calls.specs.Learning.{learnt_blocks, learnt, row_or_empty}
use Rattle.skk_calls.specs.Rows.{RowKey, Cand, Block, Row, same_text}
use Rattle.dict_laws.proofs.Texts.{without_twice, without_word_twice}

-- the note of a candidate that stands at the front already
pub note_learnt_again : (cands : List Cand) (cand : Cand)
    → learnt_note (learnt_cands cands cand) cand ≡ learnt_note cands cand
note_learnt_again cands cand =
    rw (same_itself cand.word)
    (by (is_own_note (note_of cands cand.word)) refl (is_empty cand.note) refl (is_own_note cand.note))
  where
    known : List ℕ
    known = note_of cands cand.word

    by : (own : Bool) → is_own_note known ≡ own → (none : Bool) → is_empty cand.note ≡ none → (again : Bool)
        → cond (is_own_note (cond (own || none) known cand.note) || none) (cond (own || none) known cand.note) cand.note
        ≡ cond (own || none) known cand.note
    by true e none f again = rw e refl
    by false e true f again = grind arith
    by false e false f again = grind arith

-- the candidates after a candidate is learnt again
pub cands_learnt_again : (cands : List Cand) (cand : Cand)
    → learnt_cands (learnt_cands cands cand) cand ≡ learnt_cands cands cand
cands_learnt_again cands cand =
    let note : learnt_note (learnt_cands cands cand) cand ≡ learnt_note cands cand = note_learnt_again cands cand in
    let rest : without_word cand.word (learnt_cands cands cand) ≡ without_word cand.word cands =
    rw (same_itself cand.word) (without_word_twice cand.word cands) in
    ap (λ (n : List ℕ). record { word = cand.word; note = n } ∷ without_word cand.word (learnt_cands cands cand)) note
    ∙ ap (λ (cs : List Cand). record { word = cand.word; note = learnt_note cands cand } ∷ cs) rest

-- the words of a block after one of them is put in front again
pub block_learnt_again : (okuri word : List ℕ) (blocks : List Block)
    → blocks_with_word okuri word (blocks_with_word okuri word blocks) ≡ blocks_with_word okuri word blocks
block_learnt_again okuri word [] = rw (same_itself okuri, same_itself word)
block_learnt_again okuri word (block ∷ blocks) =
    by (same_text block.okuri okuri) refl (block_learnt_again okuri word blocks)
  where
    chosen : Block → Block
    chosen b = record { okuri = b.okuri; words = word ∷ without_text word b.words }

    by : (b : Bool) → same_text block.okuri okuri ≡ b
        → blocks_with_word okuri word (blocks_with_word okuri word blocks) ≡ blocks_with_word okuri word blocks
        → blocks_with_word okuri word (cond b (chosen block ∷ blocks) (block ∷ blocks_with_word okuri word blocks))
        ≡ cond b (chosen block ∷ blocks) (block ∷ blocks_with_word okuri word blocks)
    by true e rest =
        rw (e, same_itself word)
        (ap (λ (ws : List (List ℕ)). record { okuri = block.okuri; words = word ∷ ws } ∷ blocks)
        (without_twice word block.words))
    by false e rest = rw e (ap (λ bs. block ∷ bs) rest)

-- the blocks after a candidate is learnt again
pub blocks_learnt_again : (part : Part) (okuri : Option (List ℕ)) (word : List ℕ) (blocks : List Block)
    → learnt_blocks part okuri word (learnt_blocks part okuri word blocks) ≡ learnt_blocks part okuri word blocks
blocks_learnt_again Nasi okuri word blocks = refl
blocks_learnt_again Ari None word blocks = refl
blocks_learnt_again Ari (Some okuri) word blocks = block_learnt_again okuri word blocks

-- the row after a candidate is learnt again is the one after it is learnt, but for the stamp
pub learnt_again : (before : Option Row) (key : RowKey) (okuri : Option (List ℕ)) (cand : Cand) (first second : ℕ)
    → learnt (Some (learnt before key okuri cand first)) key okuri cand second ≡ learnt before key okuri cand second
learnt_again before key okuri cand first second =
    let row : Row = row_or_empty key before in
    let cands = cands_learnt_again row.cands cand in
    let blocks = blocks_learnt_again key.part okuri cand.word row.blocks in
    let hides = without_twice cand.word row.hides in
    cc
