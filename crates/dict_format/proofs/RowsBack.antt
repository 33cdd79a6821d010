-- The items of a row make it again, with stamp 0.
use Rattle.std.proofs.Common.{◌≡◌, arith, not, ℕ, Bool, true, false, nat_le, List, [], ◌∷◌, ◌++◌, map}
use Rattle.std.proofs.Common.{length, refl, ap, ◌∙◌}
use Rattle.std.specs.List.{flat_map, filter, list_all, list_any}
use Rattle.std.proofs.lemmas.Bool.{and_parts, both_ways}
use Rattle.std.proofs.lemmas.List.{append-nil}
use Rattle.std.proofs.lemmas.List.Concat.{flat_map-append}
use Rattle.std.proofs.lemmas.List.Folds.{flat_map-map}
use Rattle.skk_text.specs.Lists.{is_empty}
use Rattle.skk_calls.specs.KeyLaws.{same_itself}
use Rattle.skk_text.specs.FilterLaws.{filter_all}
use Rattle.skk_text.specs.PairsLaws.{list_all-weaker}
use Rattle.skk_calls.specs.RowLaws.{RowParts, block_parts, cand_word}
use Rattle.skk_calls.specs.DifferLaws.{differ_parts}
use Rattle.skk_calls.specs.Rows.{Cand, Block, Row, same_text, texts_differ, is_okuri, is_cand, is_word, is_block}
use Rattle.skk_calls.specs.Found.{first_of_each}
use Rattle.dict_format.specs.RowOfItems.{words_once, has_word, cand_in, block_in, hidden_in, joined_blocks}
use Rattle.dict_format.specs.RowOfItems.{row_of_items}
use Rattle.dict_format.proofs.Blocks.{words_with-none}
use Rattle.word_sets.specs.FirstLaws.{first_of_each-fresh, texts_stay}
use Rattle.dict_format.proofs.RowParts.{joined}
use Rattle.dict_format.proofs.ItemsAgain.{cand_item, block_item, mark_of, row_items}

-- What the items say

itself : {X : Type 0} (xs : List X) → flat_map (λ x. x ∷ []) xs ≡ xs
itself [] = refl
itself (x ∷ xs) = ap (λ ys. x ∷ ys) (itself xs)

nothing : {X Y : Type 0} (xs : List X) → flat_map {A = Y} (λ x. []) xs ≡ []
nothing [] = refl
nothing (x ∷ xs) = nothing xs

ruleset said = (append-nil, flat_map-append, flat_map-map, itself, nothing)

items_say : (cands : List Cand) (blocks : List Block) (hides : List (List ℕ))
    → let items = map cand_item cands ++ map block_item blocks ++ mark_of hides in
    (flat_map cand_in items ≡ cands) × (flat_map block_in items ≡ blocks) × (flat_map hidden_in items ≡ hides)
items_say cands blocks [] = (simp said, simp said, simp said)
items_say cands blocks (w ∷ words) = (simp said, simp said, simp said)

-- What is kept

-- a word is not empty
word_some : (word : List ℕ) → is_word word ≡ true → not (is_empty word) ≡ true
word_some word e = grind arith

module _ {X : Type 0} (text_of : X → List ℕ) (test : X → Bool)
    (words : (x : X) → test x ≡ true → is_word (text_of x) ≡ true) where
  -- of items that differ by words each is the first of its own
  each_once : (xs : List X) → list_all test xs ≡ true → texts_differ (map text_of xs) ≡ true
      → first_of_each text_of [] (filter (λ x. not (is_empty (text_of x))) xs) ≡ xs
  each_once xs all differ =
      ap (first_of_each text_of []) (filter_all (λ x. not (is_empty (text_of x))) xs
      (list_all-weaker test (λ x. not (is_empty (text_of x))) (λ x e. word_some (text_of x) (words x e)) xs all))
      ∙ first_of_each-fresh text_of xs differ

words_stay : (words : List (List ℕ)) → list_all is_word words ≡ true → texts_differ words ≡ true
    → words_once words ≡ words
words_stay words all differ =
    each_once (λ word. word) is_word (λ word e. e) words all (ap texts_differ (texts_stay words) ∙ differ)

-- Blocks

some_word : (words : List (List ℕ)) → nat_le 1 (length words) ≡ true → list_all is_word words ≡ true
    → list_any (λ word. not (is_empty word)) words ≡ true
some_word [] some all = absurd (both_ways false refl some)
some_word (w ∷ words) some all = grind (arith, word_some)

-- a block of another okurigana adds no words
joined_others : (b : Block) (bs firsts : List Block)
    → list_all (λ okuri. not (same_text b.okuri okuri)) (map (λ f. f.okuri) firsts) ≡ true
    → map (joined (b ∷ bs)) firsts ≡ map (joined bs) firsts
joined_others b bs [] none = refl
joined_others b bs (first ∷ firsts) none = grind (arith, joined_others b bs firsts)

-- blocks whose okurigana differ are joined with none
joined_own : (bs : List Block) → list_all is_block bs ≡ true → texts_differ (map (λ b. b.okuri) bs) ≡ true
    → map (joined bs) bs ≡ bs
joined_own [] all differ = refl
joined_own (b ∷ bs) all differ =
    let parts = and_parts (is_block b) (list_all is_block bs) all in
    let apart = differ_parts b.okuri (map (λ c. c.okuri) bs) differ in
    let words = block_parts b parts.0 in
    let others = (and_parts (list_all (λ o. not (same_text b.okuri o)) (map (λ (c : Block). c.okuri) bs)) _ differ).0 in
    rw (same_itself b.okuri, words_with-none b.okuri bs apart.0, append-nil b.words)
    (rw (words_stay b.words words.words words.different, joined_others b bs bs others, joined_own bs parts.1 apart.1)
    refl)

blocks_back : (bs : List Block) → list_all is_block bs ≡ true → texts_differ (map (λ b. b.okuri) bs) ≡ true
    → filter (λ b. is_okuri b.okuri) (joined_blocks (filter has_word bs)) ≡ bs
blocks_back bs all differ =
    ap (λ cs. filter (λ b. is_okuri b.okuri) (joined_blocks cs))
    (filter_all has_word bs (list_all-weaker is_block has_word
    (λ b e. some_word b.words (block_parts b e).has_item (block_parts b e).words) bs all))
    ∙ ap (λ cs. filter (λ (b : Block). is_okuri b.okuri) (map (joined bs) cs))
    (first_of_each-fresh (λ (b : Block). b.okuri) bs differ)
    ∙ ap (filter (λ (b : Block). is_okuri b.okuri)) (joined_own bs all differ)
    ∙ filter_all (λ (b : Block). is_okuri b.okuri) bs
    (list_all-weaker is_block (λ b. is_okuri b.okuri) (λ b e. (block_parts b e).okuri) bs all)

-- Rows

-- the row of a row's items is that row, with stamp 0
pub row_back : (row : Row) → RowParts row → list_all is_word row.hides ≡ true
    → row_of_items row.key (row_items row) ≡ record row { stamp = 0 }
row_back row is words =
    let say = items_say row.cands row.blocks row.hides in
    rw (
      say.0,
      say.1,
      say.2,
      each_once (λ (cand : Cand). cand.word) is_cand cand_word row.cands is.cands is.words,
      blocks_back row.blocks is.blocks is.okuri,
      words_stay row.hides words is.hides,
    ) refl
