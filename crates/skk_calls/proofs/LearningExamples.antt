-- What learning, purging, annotating and taking back make of rows.
use Rattle.std.proofs.Common.{◌≡◌, true, false, Option, [], ◌∷◌, codes, refl, Some, None}
use Rattle.skk_calls.specs.Learning.{learnt, purged, purge_changes, is_own_note, annotated, annotation_changes}
use Rattle.skk_calls.specs.Learning.{unlearnt, is_valid_learned}
use Rattle.skk_calls.specs.Rows.{Row, Learned}
use Rattle.skk_calls.proofs.Samples.{Gives, plain, noted, nasi, ari, block, row, kanji, ook, kanji_key, ook_key, a, b}
use Rattle.skk_calls.proofs.Samples.{c}

-- Learning

-- the candidate goes to the front, another with its word goes away, and an empty note takes the note of that other one
cands_after : Gives (λ cand. (learnt (Some kanji) kanji_key None cand 1).cands) (
    (plain (codes "幹事"), noted (codes "幹事") (codes "宴会の") ∷ plain (codes "漢字") ∷ plain (codes "感じ") ∷ [])
    ∷ (noted (codes "幹事") (codes "x"), noted (codes "幹事") (codes "x") ∷ plain (codes "漢字") ∷ plain (codes "感じ") ∷ [])
    ∷ (plain a, plain a ∷ plain (codes "漢字") ∷ noted (codes "幹事") (codes "宴会の") ∷ plain (codes "感じ") ∷ [])
    ∷ [])
cands_after = refl

-- a note that begins with `*` is the user's own, and stays whatever is learnt
own_notes : Gives is_own_note ((codes "*", true) ∷ (codes "*x", true) ∷ (codes "x*", false) ∷ ([], false) ∷ [])
own_notes = refl

own_note_kept : Gives (λ cand. (learnt (Some (row (nasi a) (plain b ∷ noted a (codes "*x") ∷ []) [] [] 1)) (nasi a)
    None cand 2).cands) (
    (plain a, noted a (codes "*x") ∷ plain b ∷ [])
    ∷ (noted a (codes "y"), noted a (codes "*x") ∷ plain b ∷ [])
    ∷ (noted a (codes "*y"), noted a (codes "*x") ∷ plain b ∷ [])
    ∷ (noted b (codes "*y"), noted b (codes "*y") ∷ noted a (codes "*x") ∷ [])
    ∷ [])
own_note_kept = refl

-- the first word of a key
learnt_first : learnt None kanji_key None (plain (codes "漢字")) 1 ≡ row kanji_key (plain (codes "漢字") ∷ []) [] [] 1
learnt_first = refl

-- the word is hidden no more, and the row has the key and the stamp of the learning
learnt_hidden : learnt (Some (row kanji_key (plain a ∷ []) [] (b ∷ a ∷ c ∷ []) 1)) kanji_key None (plain a) 7
    ≡ row kanji_key (plain a ∷ []) [] (b ∷ c ∷ []) 7
learnt_hidden = refl

-- with an okurigana the word goes to the front of its block, which keeps its place, and a new block stands last;
-- without one the blocks stay
blocks_after : Gives (λ okuri. (learnt (Some ook) ook_key okuri (plain (codes "大")) 1).blocks) (
    (None, block (codes "く") (codes "多" ∷ []) ∷ block (codes "き") (codes "大" ∷ []) ∷ [])
    ∷ (Some (codes "く"), block (codes "く") (codes "大" ∷ codes "多" ∷ []) ∷ block (codes "き") (codes "大" ∷ []) ∷ [])
    ∷ (Some (codes "き"), block (codes "く") (codes "多" ∷ []) ∷ block (codes "き") (codes "大" ∷ []) ∷ [])
    ∷ (
      Some (codes "け"),
      block (codes "く") (codes "多" ∷ []) ∷ block (codes "き") (codes "大" ∷ []) ∷ block (codes "け") (codes "大" ∷ []) ∷ [],
    )
    ∷ [])
blocks_after = refl

-- in a block the word stands once
word_in_block : (learnt (Some (row ook_key [] (block (codes "く") (a ∷ b ∷ c ∷ []) ∷ []) [] 1)) ook_key
    (Some (codes "く")) (plain b) 2).blocks ≡ block (codes "く") (b ∷ a ∷ c ∷ []) ∷ []
word_in_block = refl

-- at a key without okurigana an okurigana counts as none
learnt_without_block : (learnt (Some kanji) kanji_key (Some (codes "く")) (plain (codes "漢字")) 1).blocks ≡ []
learnt_without_block = refl

-- Purging

-- the word is no candidate any more, and hidden
purged_word : purged (Some kanji) kanji_key (codes "漢字") 1
    ≡ row kanji_key (noted (codes "幹事") (codes "宴会の") ∷ plain (codes "感じ") ∷ []) [] (codes "漢字" ∷ []) 1
purged_word = refl

-- it leaves each block, a block goes with its last word, and the word is hidden behind the others
purged_block : purged (Some (row ook_key (plain a ∷ plain b ∷ [])
    (block (codes "く") (a ∷ []) ∷ block (codes "き") (b ∷ a ∷ []) ∷ []) (c ∷ []) 1)) ook_key a 2
    ≡ row ook_key (plain b ∷ []) (block (codes "き") (b ∷ []) ∷ []) (c ∷ a ∷ []) 2
purged_block = refl

-- a word that is hidden keeps its place there
purged_hidden : purged (Some (row kanji_key [] [] (a ∷ b ∷ []) 1)) kanji_key a 2 ≡ row kanji_key [] [] (a ∷ b ∷ []) 2
purged_hidden = refl

-- where there is no row, the word is hidden
purged_none : purged None kanji_key (codes "漢字") 1 ≡ row kanji_key [] [] (codes "漢字" ∷ []) 1
purged_none = refl

-- a purge changes something where the word is a candidate's, or a block's, or is not hidden
changing_purges : Gives (λ before. purge_changes before ook_key a) (
    (None, true) ∷ (Some (row ook_key [] [] [] 1), true) ∷ (Some (row ook_key [] [] (a ∷ []) 1), false)
    ∷ (Some (row ook_key [] [] (b ∷ []) 1), true)
    ∷ (Some (row ook_key (plain b ∷ plain a ∷ []) [] (a ∷ []) 1), true)
    ∷ (Some (row ook_key (plain b ∷ []) [] (a ∷ []) 1), false)
    ∷ (Some (row ook_key [] (block (codes "く") (b ∷ []) ∷ block (codes "き") (b ∷ a ∷ []) ∷ []) (a ∷ []) 1), true)
    ∷ (Some (row ook_key [] (block (codes "く") (b ∷ []) ∷ []) (a ∷ []) 1), false)
    ∷ [])
changing_purges = refl

-- Annotating

-- the candidate keeps its place and gets the note, whatever it had, and a new word stands last
cands_annotated : Gives (λ cand. (annotated (Some kanji) kanji_key cand 1).cands) (
    (noted (codes "幹事") (codes "*x"), plain (codes "漢字") ∷ noted (codes "幹事") (codes "*x") ∷ plain (codes "感じ") ∷ [])
    ∷ (plain (codes "幹事"), plain (codes "漢字") ∷ plain (codes "幹事") ∷ plain (codes "感じ") ∷ [])
    ∷ (noted a b, plain (codes "漢字") ∷ noted (codes "幹事") (codes "宴会の") ∷ plain (codes "感じ") ∷ noted a b ∷ [])
    ∷ [])
cands_annotated = refl

-- the word is hidden no more; the blocks stay, and the row has the key and the stamp of the annotation
annotated_row : annotated (Some (row ook_key (plain a ∷ []) (block (codes "く") (a ∷ []) ∷ []) (b ∷ a ∷ c ∷ []) 1))
    ook_key (noted a b) 7
    ≡ row ook_key (noted a b ∷ []) (block (codes "く") (a ∷ []) ∷ []) (b ∷ c ∷ []) 7
annotated_row = refl

-- where there is no row, the candidate is its first
annotated_none : annotated None (nasi a) (noted a b) 1 ≡ row (nasi a) (noted a b ∷ []) [] [] 1
annotated_none = refl

-- an annotation changes something where the word is hidden, or where no candidate has it with the note
changing_annotations : Gives (λ before. annotation_changes before (nasi a) (noted a b)) (
    (None, true) ∷ (Some (row (nasi a) (plain a ∷ []) [] [] 1), true)
    ∷ (Some (row (nasi a) (noted a c ∷ []) [] [] 1), true)
    ∷ (Some (row (nasi a) (noted a b ∷ []) [] [] 1), false)
    ∷ (Some (row (nasi a) (plain c ∷ noted a b ∷ []) [] (c ∷ []) 1), false)
    ∷ (Some (row (nasi a) (noted a b ∷ []) [] (c ∷ a ∷ []) 1), true)
    ∷ (Some (row (nasi a) (noted c b ∷ []) [] [] 1), true)
    ∷ [])
changing_annotations = refl

-- Taking back

-- what was learnt under a key with stamp 2
abbrev learned_over : Option Row → Learned
learned_over before = record { book = 1; key = nasi a; stamp = 2; before = before }

-- the row before is good, of the same key, and has an earlier stamp
valid_learned : Gives (λ before. is_valid_learned (learned_over before)) (
    (None, true) ∷ (Some (row (nasi a) (plain a ∷ []) [] [] 1), true)
    ∷ (Some (row (nasi a) (plain a ∷ []) [] [] 0), false)
    ∷ (Some (row (nasi a) (plain a ∷ []) [] [] 2), false) ∷ (Some (row (nasi a) (plain a ∷ []) [] [] 3), false)
    ∷ (Some (row (nasi b) (plain a ∷ []) [] [] 1), false) ∷ (Some (row (ari a) (plain a ∷ []) [] [] 1), false)
    ∷ (Some (row (nasi a) [] [] [] 1), false)
    ∷ [])
unfolding lib.Utf8.encode
valid_learned = refl

-- the row before is put back as it was
unlearnt_rows : Gives (λ before. unlearnt (learned_over before)) ((None, None) ∷ (Some kanji, Some kanji) ∷ [])
unlearnt_rows = refl
