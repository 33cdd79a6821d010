-- How far layers are merged.
use Rattle.std.specs.Prelude.{◌≡◌, ◌||◌, ℕ, Option, List}
use Rattle.std.specs.List.{fold}
use Rattle.skk_calls.specs.Found.{cands_of_layers, merged}
use Rattle.skk_calls.specs.Rows.{Cand, Row, has_text, words_of}
use Rattle.word_sets.specs.Firsts.{with_new}

-- The layers so far gave these candidates, and these words are passed: with what comes of the layers that are left the
-- candidates are those of all.
pub record Merging (all : List Row) (okuri : Option (List ℕ)) (cands : List Cand) (passed : List (List ℕ))
    (left : List Row) : Type 0 where
  pub hidden : List (List ℕ)
  pub comes : fold (with_new (λ (cand : Cand). cand.word)) cands (cands_of_layers hidden left okuri) ≡ merged all okuri
  pub alike : (text : List ℕ) → has_text passed text ≡ (has_text (words_of cands) text || has_text hidden text)
