-- The candidates of layers, as they are added layer by layer, where words that were given or hidden are passed.
use Rattle.std.proofs.Common.{◌≡◌, ℕ, Bool, true, false, not, ◌&&◌, ◌||◌, Option, None, Some, List, [], ◌∷◌, ◌++◌, refl}
use Rattle.std.proofs.Common.{sym, ap, ◌∙◌, arith}
use Rattle.std.specs.List.{filter, fold}
use Rattle.std.specs.Option.{is_some}
use Rattle.std.proofs.lemmas.List.{append-nil}
use Rattle.std.proofs.lemmas.List.Folds.{list_any-append}
use Rattle.std.proofs.lemmas.List.Sums.{fold-append}
use Rattle.skk_text.specs.PairsLaws.{all_pairs-filter, all_pairs-map}
use Rattle.skk_calls.specs.Found.{cands_of_layers, merged, ordered, without_hidden}
use Rattle.skk_calls.specs.KeyLaws.{same_equal}
use Rattle.skk_calls.specs.Rows.{Block, Cand, Row, same_text, has_text, is_row, texts_differ, words_of}
use Rattle.word_sets.specs.FirstLaws.{first_of_each-differ, first_of_each-fold, fold_new-apart, fold_new-texts}
use Rattle.word_sets.specs.Firsts.{with_new}
use Rattle.dict_layers.specs.Merging.{Merging}
use Rattle.dict_layers.specs.Blocks.{block_for}
use Rattle.dict_layers.proofs.BlockFirst.{by_block, ordered_differ}

abbrev word_of : Cand → List ℕ
word_of cand = cand.word

-- no word stands twice
pub merged_differ : (layers : List Row) (okuri : Option (List ℕ)) → texts_differ (words_of (merged layers okuri)) ≡ true
merged_differ layers okuri = first_of_each-differ word_of (cands_of_layers [] layers okuri)

-- Tests

joined : (c d w h s : Bool) → (s || d) ≡ (w || d) → ((c || d) || (w || h)) ≡ ((c || s) || (d || h))
joined c d w h s same = grind arith

-- Filters

-- a filter behind another keeps what passes both
filter_twice : {X : Type 0} (p q r : X → Bool) → ((x : X) → (q x && p x) ≡ r x) → (xs : List X)
    → filter p (filter q xs) ≡ filter r xs
filter_twice p q r both [] = refl
filter_twice p q r both (x ∷ xs) = grind (arith, both x, filter_twice p q r both xs)

-- what is hidden of candidates has words that are hidden
hidden_words : (hidden : List (List ℕ)) (cands : List Cand) (text : List ℕ)
    → (has_text (words_of (without_hidden hidden cands)) text || has_text hidden text)
    ≡ (has_text (words_of cands) text || has_text hidden text)
hidden_words hidden [] text = refl
hidden_words hidden (cand ∷ cands) text = grind (arith, same_equal text cand.word, hidden_words hidden cands text)

-- Layers

-- what a layer shows are its candidates that are hidden by none above it and new
layer_shown : (cands new : List Cand) (hidden passed : List (List ℕ)) (row : Row) (okuri : Option (List ℕ))
    → is_row row ≡ true
    → ((text : List ℕ) → has_text passed text ≡ (has_text (words_of cands) text || has_text hidden text))
    → new ≡ cands ++ without_hidden passed (ordered row okuri)
    → new ≡ fold (with_new word_of) cands (without_hidden hidden (ordered row okuri))
layer_shown cands new hidden passed row okuri valid alike shown =
    let items = ordered row okuri in
    let differ : texts_differ (words_of (without_hidden hidden items)) ≡ true =
    all_pairs-map word_of (λ text other. not (same_text text other)) (without_hidden hidden items)
    ∙ all_pairs-filter (λ (c : Cand) (other : Cand). not (same_text c.word other.word))
    (λ cand. not (has_text hidden cand.word)) items
    (sym (all_pairs-map word_of (λ text other. not (same_text text other)) items) ∙ ordered_differ row valid okuri) in
    shown
    ∙ ap (λ kept. cands ++ kept)
    (sym (filter_twice (λ (cand : Cand). not (has_text (words_of cands) cand.word))
    (λ (cand : Cand). not (has_text hidden cand.word)) (λ (cand : Cand). not (has_text passed cand.word))
    (λ cand. grind (arith, alike cand.word)) items))
    ∙ sym (fold_new-apart word_of cands (without_hidden hidden items) differ)

-- before the first layer
pub merging_none : (all : List Row) (okuri : Option (List ℕ)) → Merging all okuri [] [] all
merging_none all okuri = record {
  hidden = [];
  comes = sym (first_of_each-fold word_of (cands_of_layers [] all okuri));
  alike = λ text. refl;
}

-- one layer more
pub merging_more : (all : List Row) (okuri : Option (List ℕ)) (cands new : List Cand) (passed more : List (List ℕ))
    (row : Row) (left : List Row) → Merging all okuri cands passed (row ∷ left) → is_row row ≡ true
    → new ≡ cands ++ without_hidden passed (ordered row okuri)
    → ((text : List ℕ) → has_text more text
    ≡ (has_text passed text || (has_text (words_of (ordered row okuri)) text || has_text row.hides text)))
    → Merging all okuri new more left
merging_more all okuri cands new passed more row left before valid shown passes =
    let hidden = before.hidden in
    let items = ordered row okuri in
    let given : new ≡ fold (with_new word_of) cands (without_hidden hidden items) =
    layer_shown cands new hidden passed row okuri valid before.alike shown in
    record {
      hidden = hidden ++ row.hides;
      comes =
          ap (λ found. fold (with_new word_of) found (cands_of_layers (hidden ++ row.hides) left okuri)) given
          ∙ sym (fold-append (with_new word_of) cands (without_hidden hidden items)
          (cands_of_layers (hidden ++ row.hides) left okuri))
          ∙ before.comes;
      alike = λ text.
          passes text
          ∙ ap (λ b. b || (has_text (words_of items) text || has_text row.hides text)) (before.alike text)
          ∙ joined (has_text (words_of cands) text) (has_text hidden text) (has_text (words_of items) text)
          (has_text row.hides text) (has_text (words_of (without_hidden hidden items)) text)
          (hidden_words hidden items text)
          ∙ ap (λ b. b || (has_text hidden text || has_text row.hides text))
          (sym (fold_new-texts word_of cands (without_hidden hidden items) text)
          ∙ ap (λ found. has_text (words_of found) text) (sym given))
          ∙ ap (λ b. has_text (words_of new) text || b) (sym (list_any-append (same_text text) hidden row.hides));
    }

-- the last layer
pub merging_last : (all : List Row) (okuri : Option (List ℕ)) (cands new : List Cand) (passed : List (List ℕ))
    (row : Row) → Merging all okuri cands passed (row ∷ []) → is_row row ≡ true
    → new ≡ cands ++ without_hidden passed (ordered row okuri) → new ≡ merged all okuri
merging_last all okuri cands new passed row before valid shown =
    layer_shown cands new before.hidden passed row okuri valid before.alike shown
    ∙ ap (fold (with_new word_of) cands) (sym (append-nil (without_hidden before.hidden (ordered row okuri))))
    ∙ before.comes

-- One layer alone

-- no candidate is hidden where nothing is
none_hidden : (cands : List Cand) → without_hidden [] cands ≡ cands
none_hidden [] = refl
none_hidden (cand ∷ cands) = ap (λ others. cand ∷ others) (none_hidden cands)

-- no block is found where none is there
none_found : (block : Option Block) → is_some block ≡ false → None ≡ block
none_found None none = refl
none_found (Some block) none = cc

-- a layer alone without a block of the okurigana gives its candidates as they are
pub merged_alone : (row : Row) (okuri : Option (List ℕ)) → is_row row ≡ true
    → is_some (block_for okuri row.blocks) ≡ false → row.cands ≡ merged (row ∷ []) okuri
merged_alone row okuri valid none =
    merging_last (row ∷ []) okuri [] row.cands [] row (merging_none (row ∷ []) okuri) valid
    (by_block row okuri None (none_found (block_for okuri row.blocks) none)
    ∙ sym (none_hidden (ordered row okuri)))
