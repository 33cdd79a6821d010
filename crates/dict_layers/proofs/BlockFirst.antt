-- The candidates of a row in the order of an okurigana: their words, which differ.
use Rattle.std.proofs.Common.{◌≡◌, ℕ, true, false, not, ◌||◌, Option, None, Some, List, [], ◌∷◌, ◌++◌, refl}
use Rattle.std.proofs.Common.{sym, ap, ◌∙◌, length, nat_lt, position, slice_get, append_assoc, arith}
use Rattle.std.proofs.Common.{get_or, one-add}
use Rattle.std.specs.List.{filter, fold, position_or_len}
use Rattle.std.proofs.lemmas.Bool.Decides.{nat_tests}
use Rattle.std.proofs.lemmas.List.{length-map}
use Rattle.std.proofs.lemmas.List.Elements.{filter-append}
use Rattle.std.proofs.lemmas.List.Quantifiers.{position-Some}
use Rattle.std.proofs.lemmas.Option.{slice_get_read}
use Rattle.skk_text.specs.FilterLaws.{list_all_found, filter_same}
use Rattle.skk_calls.specs.Found.{note_of, with_block_first, without_hidden, ordered}
use Rattle.skk_calls.specs.KeyLaws.{same_equal, same_other}
use Rattle.skk_calls.specs.RowLaws.{block_parts, row_parts}
use Rattle.skk_calls.specs.Rows.{Cand, Block, Row, same_text, has_text, texts_differ, words_of, is_block, is_row}
use Rattle.word_sets.specs.FirstLaws.{fold_new-apart, fold_new-differ, fold_new-fresh, fold_new-texts, texts_fold_new}
use Rattle.word_sets.specs.FirstLaws.{texts_stay}
use Rattle.word_sets.specs.Firsts.{with_new}
use Rattle.dict_layers.specs.Blocks.{block_for, with_notes}

abbrev word_of : Cand → List ℕ
word_of cand = cand.word

-- the words stay
words_noted : (cands : List Cand) (words : List (List ℕ)) → words_of (with_notes cands words) ≡ words
words_noted cands [] = refl
words_noted cands (word ∷ words) = ap (λ others. word ∷ others) (words_noted cands words)

-- the candidates of a row in the order of an okurigana are those behind its block
pub ordered_by_block : (row : Row) (okuri : Option (List ℕ))
    → ordered row okuri ≡ with_block_first row (block_for okuri row.blocks)
ordered_by_block row None = refl
ordered_by_block row (Some okuri) = refl

-- the other way round, where the block was found
pub by_block : (row : Row) (okuri : Option (List ℕ)) (block : Option Block) → block ≡ block_for okuri row.blocks
    → with_block_first row block ≡ ordered row okuri
by_block row okuri block is = ap (with_block_first row) is ∙ sym (ordered_by_block row okuri)

-- behind the words of a block stand those candidates that are new there
block_added : (row : Row) (block : Block) → texts_differ (words_of row.cands) ≡ true
    → fold (with_new word_of) (with_notes row.cands block.words) row.cands ≡ with_block_first row (Some block)
block_added row block differ =
    let notes = with_notes row.cands block.words in
    fold_new-apart word_of notes row.cands differ
    ∙ ap (λ words. notes ++ filter (λ cand. not (has_text words cand.word)) row.cands)
    (words_noted row.cands block.words)

-- the words are those of the block and of the row
pub block_first_texts : (row : Row) (block : Block) (text : List ℕ) → texts_differ (words_of row.cands) ≡ true
    → has_text (words_of (with_block_first row (Some block))) text
    ≡ (has_text block.words text || has_text (words_of row.cands) text)
block_first_texts row block text differ =
    ap (λ cands. has_text (words_of cands) text) (sym (block_added row block differ))
    ∙ fold_new-texts word_of (with_notes row.cands block.words) row.cands text
    ∙ ap (λ words. has_text words text || has_text (words_of row.cands) text) (words_noted row.cands block.words)

-- no word stands twice
block_first_differ : (row : Row) (block : Block) → texts_differ (words_of row.cands) ≡ true → is_block block ≡ true
    → texts_differ (words_of (with_block_first row (Some block))) ≡ true
block_first_differ row block differ is_one =
    ap (λ cands. texts_differ (words_of cands)) (sym (block_added row block differ))
    ∙ fold_new-differ word_of (with_notes row.cands block.words) row.cands
    (ap texts_differ (words_noted row.cands block.words) ∙ (block_parts block is_one).different)

-- in whatever order
pub ordered_differ : (row : Row) → is_row row ≡ true → (okuri : Option (List ℕ))
    → texts_differ (words_of (ordered row okuri)) ≡ true
ordered_differ row valid None = (row_parts row valid).words
ordered_differ row valid (Some okuri) =
    grind (
      arith,
      (row_parts row valid).words,
      λ (block : Block). block_first_differ row block (row_parts row valid).words,
      λ (block : Block). list_all_found is_block (λ (b : Block). same_text b.okuri okuri) row.blocks block
          (row_parts row valid).blocks,
    )

-- Candidates that are added

-- where nothing is hidden all stay
pub none_hidden : (cands : List Cand) → without_hidden [] cands ≡ cands
none_hidden [] = refl
none_hidden (cand ∷ cands) = ap (λ others. cand ∷ others) (none_hidden cands)

-- the words of a block are added, and then what is neither among them nor hidden
pub block_first_added : (row : Row) (block : Block) (cands noted new : List Cand) (passed first : List (List ℕ))
    → noted ≡ cands ++ without_hidden passed (with_notes row.cands block.words)
    → first ≡ fold (with_new (λ (text : List ℕ). text)) [] block.words
    → new ≡ noted ++ without_hidden passed (without_hidden first row.cands)
    → new ≡ cands ++ without_hidden passed (with_block_first row (Some block))
block_first_added row block cands noted new passed first words from added =
    let others = without_hidden block.words row.cands in
    let same : without_hidden first row.cands ≡ others =
    filter_same (λ (cand : Cand). not (has_text first cand.word))
    (λ (cand : Cand). not (has_text block.words cand.word))
    (λ cand. ap (λ texts. not (has_text texts cand.word)) from ∙ ap not (texts_fold_new [] block.words cand.word))
    row.cands in
    added ∙ ap (λ kept. noted ++ without_hidden passed kept) same
    ∙ ap (λ before. before ++ without_hidden passed others) words
    ∙ append_assoc cands (without_hidden passed (with_notes row.cands block.words)) (without_hidden passed others)
    ∙ ap (λ kept. cands ++ kept)
    (sym (filter-append (λ (cand : Cand). not (has_text passed cand.word)) (with_notes row.cands block.words) others))

-- Words among candidates

-- the words of candidates are all passed, where they differ
pub words_passed : (cands : List Cand) → texts_differ (words_of cands) ≡ true
    → fold (with_new (λ (text : List ℕ). text)) [] (words_of cands) ≡ words_of cands
words_passed cands differ =
    fold_new-fresh (λ (text : List ℕ). text) (words_of cands) (ap texts_differ (texts_stay (words_of cands)) ∙ differ)

-- what stands at the place of a word is the word with its note
note_at_place : (cands : List Cand) (word : List ℕ) (cand : Cand)
    → slice_get cands (position_or_len (same_text word) (words_of cands)) ≡ Some cand
    → cand ≡ record { word = word; note = note_of cands word }
note_at_place [] word cand here = cc
note_at_place (first ∷ cands) word cand here =
    grind (
      arith,
      same_other first.word word,
      same_equal first.word word,
      one-add (position_or_len (same_text word) (words_of cands)),
      note_at_place cands word cand,
    )

pub note_at : (cands : List Cand) (word : List ℕ) (place : ℕ) (cand : Cand)
    → position (same_text word) (words_of cands) ≡ Some place → cand ≡ get_or cands place cand
    → cand ≡ record { word = word; note = note_of cands word }
note_at cands word place cand found here =
    let at = position_or_len (same_text word) (words_of cands) in
    let low = (position-Some (same_text word) (words_of cands) place [] found).0 in
    note_at_place cands word cand
    (ap (slice_get cands) (grind arith)
    ∙ slice_get_read cands (length cands) place cand refl (omega (arith, low, length-map cands word_of)) here)

-- a word that stands nowhere has no note
no_note_past : (cands : List Cand) (word : List ℕ)
    → nat_lt (position_or_len (same_text word) (words_of cands)) (length (words_of cands)) ≡ false
    → note_of cands word ≡ []
no_note_past [] word none = refl
no_note_past (first ∷ cands) word none =
    grind (arith, nat_tests, same_other first.word word, no_note_past cands word)

pub no_note : (cands : List Cand) (word : List ℕ) → position (same_text word) (words_of cands) ≡ None
    → note_of cands word ≡ []
no_note cands word none =
    let at = position_or_len (same_text word) (words_of cands) in
    no_note_past cands word (grind arith)
