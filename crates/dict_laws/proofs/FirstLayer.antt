-- The first layer of a lookup: nothing hides its candidates, and none of them is left out.
use Rattle.std.proofs.Common.{◌≡◌, ◌∙◌, ℕ, true, false, not, Option, None, Some, List, [], ◌∷◌, ◌++◌, refl, ap, map}
use Rattle.std.specs.List.{filter, list_all}
use Rattle.std.proofs.lemmas.Bool.{and_parts, and_from, not-true, not_from_false, or_from, or_parts}
use Rattle.std.proofs.lemmas.List.Folds.{list_all-map}
use Rattle.std.proofs.lemmas.List.{map-append}
use Rattle.skk_text.specs.FilterLaws.{list_all_kept, list_all_found}
use Rattle.skk_calls.specs.KeyLaws.{same_other}
use Rattle.skk_calls.specs.Found.{first_of_each, block_of, note_of, with_block_first, ordered, without_hidden}
use Rattle.skk_calls.specs.Found.{cands_of_layers, merged}
use Rattle.skk_calls.specs.Rows.{Cand, Block, Row, same_text, has_text, texts_differ, words_of, is_block, is_row}
use Rattle.skk_calls.specs.RowLaws.{row_parts, block_parts}
use Rattle.dict_laws.specs.Filtered.{map_filter}
use Rattle.dict_laws.proofs.Texts.{differ_parts, differ_filter, differ-append}

-- where nothing is hidden, every candidate is shown
pub shown_all : (cands : List Cand) → without_hidden [] cands ≡ cands
shown_all [] = refl
shown_all (cand ∷ cands) = ap (λ rest. cand ∷ rest) (shown_all cands)

-- a candidate whose word was not seen is the next that is found
pub first_of_each_new : (seen : List (List ℕ)) (cand : Cand) (cands : List Cand) → has_text seen cand.word ≡ false
    → first_of_each (λ (c : Cand). c.word) seen (cand ∷ cands)
    ≡ cand ∷ first_of_each (λ (c : Cand). c.word) (cand.word ∷ seen) cands
first_of_each_new seen cand cands e = rw e refl

-- words that were not seen are not seen either where another word is added
pub unseen_still : (seen : List (List ℕ)) (word : List ℕ) (cands : List Cand)
    → list_all (λ cand. not (has_text seen cand.word)) cands ≡ true
    → has_text (words_of cands) word ≡ false → list_all (λ cand. not (has_text (word ∷ seen) cand.word)) cands ≡ true
unseen_still seen word [] unseen none = refl
unseen_still seen word (cand ∷ cands) unseen none =
    let old = and_parts (not (has_text seen cand.word)) (list_all (λ c. not (has_text seen c.word)) cands) unseen in
    let new = or_parts (same_text word cand.word) (has_text (words_of cands) word) none in
    and_from (not (has_text (word ∷ seen) cand.word)) (list_all (λ c. not (has_text (word ∷ seen) c.word)) cands)
    (not_from_false (has_text (word ∷ seen) cand.word) (or_from (same_text cand.word word) (has_text seen cand.word)
    (same_other cand.word word ∙ new.0) (not-true (has_text seen cand.word) old.0)))
    (unseen_still seen word cands old.1 new.1)

-- candidates whose words differ are all found, where they come first and none of their words was seen
pub first_of_each_begin : (seen : List (List ℕ)) (cands rest : List Cand) → texts_differ (words_of cands) ≡ true
    → list_all (λ cand. not (has_text seen cand.word)) cands ≡ true
    → (others : List Cand) × (first_of_each (λ (c : Cand). c.word) seen (cands ++ rest) ≡ cands ++ others)
first_of_each_begin seen [] rest apart unseen = (first_of_each (λ (c : Cand). c.word) seen rest, refl)
first_of_each_begin seen (cand ∷ cands) rest apart unseen =
    let new = and_parts (not (has_text seen cand.word)) (list_all (λ c. not (has_text seen c.word)) cands) unseen in
    let alone = differ_parts cand.word (words_of cands) apart in
    let next =
    first_of_each_begin (cand.word ∷ seen) cands rest alone.1 (unseen_still seen cand.word cands new.1 alone.0) in (
      next.0,
      first_of_each_new seen cand (cands ++ rest) (not-true (has_text seen cand.word) new.0)
          ∙ ap (λ l. cand ∷ l) next.1,
    )

-- nothing was seen before the first
pub none_seen : (cands : List Cand) → list_all (λ cand. not (has_text [] cand.word)) cands ≡ true
none_seen [] = refl
none_seen (cand ∷ cands) = none_seen cands

-- the words of candidates that are made of words are these words
pub words_again : (cands : List Cand) (texts : List (List ℕ))
    → words_of (map (λ word. record { word = word; note = note_of cands word }) texts) ≡ texts
words_again cands [] = refl
words_again cands (text ∷ texts) = ap (λ rest. text ∷ rest) (words_again cands texts)

-- the other candidates have none of a block's words
pub others_apart : (texts : List (List ℕ)) (cands : List Cand) → list_all (λ other. not (has_text texts other))
    (words_of (filter (λ cand. not (has_text texts cand.word)) cands)) ≡ true
others_apart texts cands =
    list_all-map (λ other. not (has_text texts other)) (λ (c : Cand). c.word)
    (filter (λ cand. not (has_text texts cand.word)) cands)
    ∙ list_all_kept (λ cand. not (has_text texts cand.word)) cands

-- the words differ where a block's words stand first
pub with_block_differ : (row : Row) (block : Block) → texts_differ block.words ≡ true
    → texts_differ (words_of row.cands) ≡ true → texts_differ (words_of (with_block_first row (Some block))) ≡ true
with_block_differ row block e f =
    let first = map (λ word. record { word = word; note = note_of row.cands word }) block.words in
    let others = filter (λ cand. not (has_text block.words cand.word)) row.cands in
    ap texts_differ (map-append (λ (c : Cand). c.word) first others
    ∙ ap (λ l. l ++ words_of others) (words_again row.cands block.words))
    ∙ differ-append block.words (words_of others) e
    (ap texts_differ (map_filter (λ (c : Cand). c.word) (λ word. not (has_text block.words word)) row.cands)
    ∙ differ_filter (λ word. not (has_text block.words word)) (words_of row.cands) f)
    (others_apart block.words row.cands)

-- in whatever order a row's words stand, they differ
pub ordered_words_differ : (row : Row) (okuri : Option (List ℕ)) → is_row row ≡ true
    → texts_differ (words_of (ordered row okuri)) ≡ true
ordered_words_differ row None e = (row_parts row e).words
ordered_words_differ row (Some okuri) e = by (block_of okuri row.blocks) refl
  where
    by : (found : Option Block) → block_of okuri row.blocks ≡ found
        → texts_differ (words_of (with_block_first row found)) ≡ true
    by None f = (row_parts row e).words
    by (Some block) f =
        let parts = row_parts row e in
        let is_one = list_all_found is_block (λ b. same_text b.okuri okuri) row.blocks block parts.blocks f in
        with_block_differ row block (block_parts block is_one).different parts.words

-- all candidates of the first layer are found, in their order and before all others
pub first_layer : (row : Row) (below : List Row) (okuri : Option (List ℕ)) → is_row row ≡ true
    → (rest : List Cand) × (merged (row ∷ below) okuri ≡ ordered row okuri ++ rest)
first_layer row below okuri e =
    let cands = ordered row okuri in
    let others = cands_of_layers ([] ++ row.hides) below okuri in
    let found = first_of_each_begin [] cands others (ordered_words_differ row okuri e) (none_seen cands) in (
      found.0,
      ap (λ shown_cands. first_of_each (λ (c : Cand). c.word) [] (shown_cands ++ others)) (shown_all cands) ∙ found.1,
    )
