use Rattle.std.proofs.Common.{◌≡◌, ◌∙◌, ◌||◌, ℕ, Bool, List, [], ◌∷◌, refl, ap, rules}
use Rattle.std.specs.List.{list_any}
use Rattle.std.proofs.lemmas.Iterator.{YieldsList-from_slice}
use Rattle.std.proofs.lemmas.Iterator.Search.{any_from_yields_List}
use Rattle.skk_calls.specs.Rows.{Cand, same_text, words_of}
use Rattle.dict_format.proofs.few_cands.has_cand.Goals as goal
use borrow.Author.Tests.{tests}

-- a test of words among candidates
word_among : (p : List ℕ → Bool) (cands : List Cand)
    → list_any (λ cand. p cand.word) cands ≡ list_any p (words_of cands)
word_among p [] = refl
word_among p (cand ∷ cands) = ap (λ b. p cand.word || b) (word_among p cands)

pub returns : goal.returns
returns c =
    let same = λ (cand : Cand). same_text c.args.word.now cand.word in
    any_from_yields_List same _ _ c.any.result c.any.ensures.ran (YieldsList-from_slice c.args.cands.now cc)
    (λ x b q k. search (rules, tests))
    ∙ word_among (same_text c.args.word.now) c.args.cands.now
