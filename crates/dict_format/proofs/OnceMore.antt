-- The first of each text that is not empty, with one more item.
use Rattle.std.proofs.Common.{◌≡◌, not, ℕ, true, false, List, [], ◌∷◌, ◌++◌, ◌∙◌, ap, map, sym}
use Rattle.std.specs.List.{filter}
use Rattle.std.proofs.lemmas.Grind.{common_steps}
use Rattle.std.proofs.lemmas.List.{append-nil}
use Rattle.std.proofs.lemmas.List.Elements.{filter-append}
use Rattle.skk_text.specs.Lists.{is_empty}
use Rattle.skk_calls.specs.Found.{first_of_each}
use Rattle.skk_calls.specs.Rows.{Cand}
use Rattle.word_sets.specs.FirstLaws.{first_of_each-push, with_new-map}
use Rattle.word_sets.specs.Strings.{as_cand}
use Rattle.word_sets.specs.Firsts.{with_new}
use Rattle.dict_format.specs.Building.{cands_once}
use Rattle.dict_format.specs.RowOfItems.{words_once}

module _ {X : Type 0} (text_of : X → List ℕ) where
  -- the first of each text that is not empty
  abbrev pub once : List X → List X
  once xs = first_of_each text_of [] (filter (λ x. not (is_empty (text_of x))) xs)

  -- one more, whose text is not empty
  pub once-some : (xs : List X) (x : X) → is_empty (text_of x) ≡ false
      → once (xs ++ x ∷ []) ≡ with_new text_of (once xs) x
  once-some xs x e = rw (filter-append, e) (first_of_each-push text_of _ x)

  -- and one whose text is
  pub once-none : (xs : List X) (x : X) → is_empty (text_of x) ≡ true → once (xs ++ x ∷ []) ≡ once xs
  once-none xs x e = simp (filter-append, e, append-nil)

-- words by what is inserted
pub words_some : (words : List (List ℕ)) (word : List ℕ) → is_empty word ≡ false
    → words_once (words ++ word ∷ []) ≡ with_new (λ text. text) (words_once words) word
words_some words word e = once-some (λ text. text) words word e

pub words_none : (words : List (List ℕ)) (word : List ℕ) → is_empty word ≡ true
    → words_once (words ++ word ∷ []) ≡ words_once words
words_none words word e = once-none (λ text. text) words word e

pub ruleset words_once_more = (common_steps, words_some, words_none)

-- candidates by what is inserted
pub cands_some : (pairs : List (List ℕ × List ℕ)) (cands : List Cand) (word note : List ℕ) → is_empty word ≡ false
    → map as_cand pairs ≡ cands_once cands
    → map as_cand (with_new (λ pair. pair.0) pairs (word, note)) ≡ cands_once (cands ++ as_cand (word, note) ∷ [])
cands_some pairs cands word note e so_far =
    with_new-map as_cand (λ (one : Cand). one.word) pairs (word, note)
    ∙ ap (λ all. with_new (λ (one : Cand). one.word) all (as_cand (word, note))) so_far
    ∙ sym (once-some (λ (one : Cand). one.word) cands (as_cand (word, note)) e)

pub cands_none : (cands : List Cand) (word note : List ℕ) → is_empty word ≡ true
    → cands_once (cands ++ as_cand (word, note) ∷ []) ≡ cands_once cands
cands_none cands word note e = once-none (λ (one : Cand). one.word) cands (as_cand (word, note)) e

pub ruleset cands_once_more = (common_steps, cands_some, cands_none)
