-- Candidates as they are shown with their words, and with the texts that these are filled to.
use Rattle.std.proofs.Common.{◌≡◌, ◌∙◌, ℕ, Bool, true, false, cond, List, [], ◌∷◌, ◌++◌, map, refl, sym, ap}
use Rattle.std.proofs.lemmas.List.{map-append}
use Rattle.std.proofs.lemmas.Simd.{map-map}
use Rattle.skk_calls.specs.Found.{first_of_each}
use Rattle.skk_calls.specs.Rows.{RowKey, Cand, has_text, texts_differ, words_of}
use Rattle.word_sets.specs.FirstLaws.{first_of_each-fresh}
use Rattle.candidate_state.specs.declared.numbered.TextCand.{TextCand}
use Rattle.candidate_state.specs.declared.shown.BothFound.{BothFound}
use Rattle.candidate_state.specs.Shown.{Shown, shown_word, shown_with_text, shown_numbers, first_shown}
use Rattle.candidate_state.specs.Shown.{first_texts, text_of, with_fill, with_word}

-- candidates are shown with their words
texts_shown : (key : RowKey) (found : List Cand)
    → map (λ (s : Shown). s.text) (map (shown_word key) found) ≡ words_of found
texts_shown key [] = refl
texts_shown key (cand ∷ found) = ap (λ words. cand.word ∷ words) (texts_shown key found)

-- what was found, where no word stands twice, is shown whole
pub shown_words : (key : RowKey) (found : List Cand) → texts_differ (words_of found) ≡ true
    → map (shown_word key) found ≡ first_shown (map (shown_word key) found)
shown_words key found differ =
    sym (first_of_each-fresh (λ (s : Shown). s.text) (map (shown_word key) found)
    (ap texts_differ (texts_shown key found) ∙ differ))

-- the first of each text of candidates are shown as the first of each text that is shown
first_of_each-shown : (key number_key : RowKey) (seen : List (List ℕ)) (cands : List TextCand)
    → map (shown_with_text key number_key) (first_of_each text_of seen cands)
    ≡ first_of_each (λ (s : Shown). s.text) seen (map (shown_with_text key number_key) cands)
first_of_each-shown key number_key seen [] = refl
first_of_each-shown key number_key seen (cand ∷ cands) =
    by (has_text seen cand.text) (first_of_each-shown key number_key seen cands)
    (first_of_each-shown key number_key (cand.text ∷ seen) cands)
  where
    shown : TextCand → Shown
    shown = shown_with_text key number_key

    by : (there : Bool)
        → map (shown_with_text key number_key) (first_of_each text_of seen cands)
        ≡ first_of_each (λ (s : Shown). s.text) seen (map (shown_with_text key number_key) cands)
        → map (shown_with_text key number_key) (first_of_each text_of (cand.text ∷ seen) cands)
        ≡ first_of_each (λ (s : Shown). s.text) (cand.text ∷ seen) (map (shown_with_text key number_key) cands)
        → map (shown_with_text key number_key) (cond there (first_of_each text_of seen cands)
        (cand ∷ first_of_each text_of (cand.text ∷ seen) cands))
        ≡ cond there (first_of_each (λ (s : Shown). s.text) seen (map (shown_with_text key number_key) cands))
        (shown_with_text key number_key cand
        ∷ first_of_each (λ (s : Shown). s.text) (cand.text ∷ seen) (map (shown_with_text key number_key) cands))
    by true known new = known
    by false known new = ap (λ rest. shown_with_text key number_key cand ∷ rest) new

-- what was found by both keys is shown with its texts
pub shown_texts : (found : BothFound) (numbers firsts : List (List ℕ))
    → map (shown_with_text found.plain.key found.numbered.key) (first_texts
    (map with_word found.plain.cands ++ map (with_fill numbers firsts) found.numbered.cands))
    ≡ shown_numbers found numbers firsts
shown_texts found numbers firsts =
    let show = shown_with_text found.plain.key found.numbered.key in
    let words = map with_word found.plain.cands in
    let fills = map (with_fill numbers firsts) found.numbered.cands in
    first_of_each-shown found.plain.key found.numbered.key [] (words ++ fills)
    ∙ ap first_shown (map-append show words fills
    ∙ ap (λ shown. shown ++ map show fills) (map-map show with_word found.plain.cands)
    ∙ ap (λ shown. map (shown_word found.plain.key) found.plain.cands ++ shown)
    (map-map show (with_fill numbers firsts) found.numbered.cands))
