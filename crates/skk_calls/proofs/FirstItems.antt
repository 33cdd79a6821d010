-- The first item of a text, and those behind it.
use Rattle.std.proofs.Common.{◌≡◌, ◌∙◌, ℕ, Bool, true, false, ◌&&◌, ◌||◌, not, None, Some, List, [], ◌∷◌, map, ap}
use Rattle.std.proofs.Common.{refl, arith}
use Rattle.std.specs.List.{list_all}
use Rattle.skk_text.specs.Lists.{is_empty}
use Rattle.exact_readers.specs.ManyLaws.{taken-none, taken-some}
use Rattle.skk_calls.specs.PlainCands.{cand_of_item, cands_in, has_plain_items, is_plain_item, items_and_rest}
use Rattle.skk_calls.specs.PlainCands.{slashed_item, word_and_note}
use Rattle.skk_calls.specs.PlainLaws.{slashed_exact}
use Rattle.skk_calls.specs.Rows.{has_text, same_text, texts_differ, words_of}

-- a text is the same as none of some texts where these have it not
none_has : (texts : List (List ℕ)) (text : List ℕ)
    → list_all (λ other. not (same_text text other)) texts ≡ not (has_text texts text)
none_has [] text = refl
none_has (other ∷ texts) text = grind (arith, none_has texts text)

-- five tests in another order
in_order : (ended plain rest new differ : Bool)
    → (ended && ((plain && rest) && (new && differ))) ≡ ((plain && new) && (ended && (rest && differ)))
in_order false true rest true differ = refl
in_order false true rest false differ = refl
in_order false false rest new differ = refl
in_order true true true true differ = refl
in_order true true true false differ = refl
in_order true true false true differ = refl
in_order true true false false differ = refl
in_order true false rest new differ = refl

module _ (text item behind : List ℕ) (is : slashed_item.step text ≡ Some (item, behind)) where
  first_item : items_and_rest text ≡ (item ∷ (items_and_rest behind).0, (items_and_rest behind).1)
  first_item = taken-some slashed_item slashed_exact text item behind is

  -- its candidate is the first
  pub first_cand : cands_in text ≡ cand_of_item item ∷ cands_in behind
  first_cand = ap (λ (parts : List (List ℕ) × List ℕ). map cand_of_item parts.0) first_item

  -- its word is one
  pub first_word : (word : List ℕ) → has_text (words_of (cands_in text)) word
      ≡ (same_text word (word_and_note item).0 || has_text (words_of (cands_in behind)) word)
  first_word word = ap (λ cands. has_text (words_of cands) word) first_cand

  -- all items are plain where it is plain and new, and those behind it are plain
  pub first_plain : has_plain_items text
      ≡ ((is_plain_item item && not (has_text (words_of (cands_in behind)) (word_and_note item).0))
      && has_plain_items behind)
  first_plain =
      ap (λ (parts : List (List ℕ) × List ℕ). is_empty parts.1
      && (list_all is_plain_item parts.0 && texts_differ (words_of (map cand_of_item parts.0)))) first_item
      ∙ ap (λ new. is_empty (items_and_rest behind).1
      && ((is_plain_item item && list_all is_plain_item (items_and_rest behind).0)
      && (new && texts_differ (words_of (cands_in behind)))))
      (none_has (words_of (cands_in behind)) (word_and_note item).0)
      ∙ in_order (is_empty (items_and_rest behind).1) (is_plain_item item)
      (list_all is_plain_item (items_and_rest behind).0)
      (not (has_text (words_of (cands_in behind)) (word_and_note item).0)) (texts_differ (words_of (cands_in behind)))

module _ (text : List ℕ) (is : slashed_item.step text ≡ None) where
  no_item : items_and_rest text ≡ ([], text)
  no_item = taken-none slashed_item slashed_exact text is

  -- no candidate is left
  pub no_cand : cands_in text ≡ []
  no_cand = ap (λ (parts : List (List ℕ) × List ℕ). map cand_of_item parts.0) no_item

  -- nor a word
  pub no_word : (word : List ℕ) → has_text (words_of (cands_in text)) word ≡ false
  no_word word = ap (λ cands. has_text (words_of cands) word) no_cand

  -- and all items are plain where nothing is left
  pub no_plain : has_plain_items text ≡ is_empty text
  no_plain =
      ap (λ (parts : List (List ℕ) × List ℕ). is_empty parts.1
      && (list_all is_plain_item parts.0 && texts_differ (words_of (map cand_of_item parts.0)))) no_item
      ∙ last (is_empty text)
    where
      last : (b : Bool) → (b && (true && true)) ≡ b
      last true = refl
      last false = refl
