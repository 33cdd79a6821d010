-- What is found for a key: the candidates of each layer, one after another.
use Rattle.std.specs.Prelude.{ℕ, not, ◌==◌, if◌then◌else◌, Option, None, Some, List, [], ◌∷◌, ◌++◌, map, find}
use Rattle.std.specs.List.{filter, filter_map}
use Rattle.skk_calls.specs.Rows.{RowKey, Cand, Block, Row, same_text, has_text}
use Rattle.skk_calls.specs.States.{State, books_read, row_in, row_at}

-- the block of an okurigana
abbrev pub block_of : List ℕ → List Block → Option Block
block_of okuri blocks = find (λ block. same_text block.okuri okuri) blocks

-- the note that the first candidate of a word has, empty where there is no such candidate
abbrev pub note_of : List Cand → List ℕ → List ℕ
note_of [] word = []
note_of (cand ∷ cands) word = if same_text cand.word word then cand.note else note_of cands word

-- the candidates of a row where the words of a block stand first, with their notes
abbrev pub with_block_first : Row → Option Block → List Cand
with_block_first row None = row.cands
with_block_first row (Some block) =
    map (λ word. record { word = word; note = note_of row.cands word }) block.words
    ++ filter (λ cand. not (has_text block.words cand.word)) row.cands

-- the candidates of a row in the order of an okurigana, whose block comes first
abbrev pub ordered : Row → Option (List ℕ) → List Cand
ordered row None = row.cands
ordered row (Some okuri) = with_block_first row (block_of okuri row.blocks)

-- the candidates without those whose words are hidden
abbrev pub without_hidden : List (List ℕ) → List Cand → List Cand
without_hidden hidden cands = filter (λ cand. not (has_text hidden cand.word)) cands

-- the candidates of layers, one after another, where each layer hides words in those below it and not in itself
abbrev pub cands_of_layers : List (List ℕ) → List Row → Option (List ℕ) → List Cand
cands_of_layers hidden [] okuri = []
cands_of_layers hidden (row ∷ layers) okuri =
    without_hidden hidden (ordered row okuri) ++ cands_of_layers (hidden ++ row.hides) layers okuri

-- the first item of each text that was not seen before
abbrev pub first_of_each : {X : Type 0} → (X → List ℕ) → List (List ℕ) → List X → List X
first_of_each text_of seen [] = []
first_of_each text_of seen (x ∷ xs) =
    if has_text seen (text_of x)
    then first_of_each text_of seen xs
    else x ∷ first_of_each text_of (text_of x ∷ seen) xs

-- the candidates of all layers, the upper ones first, with the first of each word
abbrev pub merged : List Row → Option (List ℕ) → List Cand
merged layers okuri = first_of_each (λ cand. cand.word) [] (cands_of_layers [] layers okuri)

-- the rows of a key: in each book that the typist reads, and in each system file, in order
abbrev pub layers : List (List Row) → State → ℕ → RowKey → List Row
layers files state who key =
    filter_map (λ number. row_at state number key) (books_read state who) ++ filter_map (row_in key) files

-- what a lookup finds
abbrev pub found : List (List Row) → State → ℕ → RowKey → Option (List ℕ) → List Cand
found files state who key okuri = merged (layers files state who key) okuri
