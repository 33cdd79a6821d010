-- What learning, purging, annotating and taking back make of a row.
use Rattle.std.specs.Prelude.{ℕ, Bool, true, ◌&&◌, ◌||◌, not, nat_eq, nat_le, nat_lt, if◌then◌else◌, Option}
use Rattle.std.specs.Prelude.{None, Some, List, [], ◌∷◌, ◌++◌, map, codes}
use Rattle.std.specs.List.{filter, list_any, starts_with}
use Rattle.skk_calls.specs.declared.part.Part.{Part}
use Rattle.skk_calls.specs.declared.part.Part.TheVariants.{Nasi, Ari}
use Rattle.skk_calls.specs.Canonical.{is_good}
use Rattle.skk_text.specs.Lists.{is_empty}
use Rattle.skk_calls.specs.Found.{note_of}
use Rattle.skk_calls.specs.Rows.{RowKey, Cand, Block, Row, Learned, same_text, same_key, has_text, words_of}

-- the row of a key that says nothing
abbrev pub empty_row : RowKey → Row
empty_row key = record { key = key; cands = []; blocks = []; hides = []; stamp = 0 }

-- a row, or where there is none the one of a key that says nothing
abbrev pub row_or_empty : RowKey → Option Row → Row
row_or_empty key None = empty_row key
row_or_empty key (Some row) = row

-- texts without one of them
abbrev pub without_text : List ℕ → List (List ℕ) → List (List ℕ)
without_text text texts = filter (λ other. not (same_text other text)) texts

-- candidates without those of a word
abbrev pub without_word : List ℕ → List Cand → List Cand
without_word word cands = filter (λ cand. not (same_text cand.word word)) cands

-- a note is the user's own: it begins with `*`
abbrev pub is_own_note : List ℕ → Bool
is_own_note note = starts_with nat_eq note (codes "*")

-- the note of a candidate that is learnt: that of the candidate with its word, where that note is the user's own or the
-- learnt one has none; else its own
abbrev pub learnt_note : List Cand → Cand → List ℕ
learnt_note cands cand =
    let known = note_of cands cand.word in
    if is_own_note known || is_empty cand.note then known else cand.note

-- the candidates with one that is learnt at their front, and another with its word gone
abbrev pub learnt_cands : List Cand → Cand → List Cand
learnt_cands cands cand = record { word = cand.word; note = learnt_note cands cand } ∷ without_word cand.word cands

-- the blocks with a word at the front of that of an okurigana, which is added at the end where there is none
abbrev pub blocks_with_word : List ℕ → List ℕ → List Block → List Block
blocks_with_word okuri word [] = record { okuri = okuri; words = word ∷ [] } ∷ []
blocks_with_word okuri word (block ∷ blocks) =
    if same_text block.okuri okuri
    then record { okuri = block.okuri; words = word ∷ without_text word block.words } ∷ blocks
    else block ∷ blocks_with_word okuri word blocks

-- the blocks after a word is learnt, which change where the key has okurigana and one was chosen
abbrev pub learnt_blocks : Part → Option (List ℕ) → List ℕ → List Block → List Block
learnt_blocks Nasi okuri word blocks = blocks
learnt_blocks Ari None word blocks = blocks
learnt_blocks Ari (Some okuri) word blocks = blocks_with_word okuri word blocks

-- the row after a candidate is learnt
abbrev pub learnt : Option Row → RowKey → Option (List ℕ) → Cand → ℕ → Row
learnt before key okuri cand stamp =
    let row = row_or_empty key before in
    record {
      key = key;
      cands = learnt_cands row.cands cand;
      blocks = learnt_blocks key.part okuri cand.word row.blocks;
      hides = without_text cand.word row.hides;
      stamp = stamp;
    }

-- a block without a word
abbrev pub block_without : List ℕ → Block → Block
block_without word block = record { okuri = block.okuri; words = without_text word block.words }

-- the blocks without a word, as far as words are left in them
abbrev pub blocks_without : List ℕ → List Block → List Block
blocks_without word blocks = filter (λ block. not (is_empty block.words)) (map (block_without word) blocks)

-- the hidden words with one that is hidden too, at their end where it is new
abbrev pub hides_with : List ℕ → List (List ℕ) → List (List ℕ)
hides_with word hides = if has_text hides word then hides else hides ++ word ∷ []

-- the row after a word is purged
abbrev pub purged : Option Row → RowKey → List ℕ → ℕ → Row
purged before key word stamp =
    let row = row_or_empty key before in
    record {
      key = key;
      cands = without_word word row.cands;
      blocks = blocks_without word row.blocks;
      hides = hides_with word row.hides;
      stamp = stamp;
    }

-- a purge changes something: the word is a candidate's, or a block's, or is not hidden yet
abbrev pub purge_changes : Option Row → RowKey → List ℕ → Bool
purge_changes before key word =
    let row = row_or_empty key before in
    has_text (words_of row.cands) word
    || (list_any (λ block. has_text block.words word) row.blocks || not (has_text row.hides word))

-- the candidates with a note for a word: the first with that word keeps its place and gets the note, and where there is
-- none the candidate is added at the end
abbrev pub annotated_cands : List Cand → Cand → List Cand
annotated_cands [] cand = cand ∷ []
annotated_cands (first ∷ cands) cand =
    if same_text first.word cand.word
    then record { word = first.word; note = cand.note } ∷ cands
    else first ∷ annotated_cands cands cand

-- the row after a candidate is annotated
abbrev pub annotated : Option Row → RowKey → Cand → ℕ → Row
annotated before key cand stamp =
    let row = row_or_empty key before in
    record {
      key = key;
      cands = annotated_cands row.cands cand;
      blocks = row.blocks;
      hides = without_text cand.word row.hides;
      stamp = stamp;
    }

-- two candidates are the same, by their words and their notes
abbrev pub same_cand : Cand → Cand → Bool
same_cand one other = same_text one.word other.word && same_text one.note other.note

-- an annotation changes something: the word is hidden, or there is no candidate with the word and the note
abbrev pub annotation_changes : Option Row → RowKey → Cand → Bool
annotation_changes before key cand =
    let row = row_or_empty key before in
    has_text row.hides cand.word || not (list_any (λ other. same_cand other cand) row.cands)

-- the row after what was learnt is taken back: the one before, or none where there was none
abbrev pub unlearnt : Learned → Option Row
unlearnt learned = learned.before

-- a row may have stood before a learning: it is good, of the same key, and has an earlier stamp
abbrev pub is_row_before : RowKey → ℕ → Option Row → Bool
is_row_before key stamp None = true
is_row_before key stamp (Some row) =
    same_key row.key key && (is_good row && (nat_le 1 row.stamp && nat_lt row.stamp stamp))

-- what the type of what was learnt keeps: the row before is such a one
abbrev pub is_valid_learned : Learned → Bool
is_valid_learned learned = is_row_before learned.key learned.stamp learned.before
