-- What holds of lines.
use Rattle.std.specs.Prelude.{◌≡◌, ◌≢◌, ◌<◌, ◌==◌, ℕ, false, if◌then◌else◌, List, [], ◌∷◌, length, drop}
use Rattle.std.proofs.Common.{◌∙◌, ap, zero, suc, take, get_or, arith, inl, inr}
use Rattle.std.proofs.lemmas.Bool.{eq-eqb}
use Rattle.std.proofs.lemmas.Bool.Decides.{eqb_tells}
use Rattle.skk_text.specs.Lines.{with_first, lines_of}

-- numbers that differ fail the test
differs : (a b : ℕ) → a ≢ b → (a == b) ≡ false
differs a b differ = elim (eqb_tells a b) [ inl e ↦ absurd (differ e.1) | inr e ↦ e.0 ]

-- the first LF ends the first line
pub lines_of-cut : (text : List ℕ) (k : ℕ) → k < length text → ((i : ℕ) → i < k → get_or text i 0 ≢ 10)
    → get_or text k 0 ≡ 10 → lines_of text ≡ take k text ∷ lines_of (drop (suc k) text)
lines_of-cut [] k within none here = absurd (omega arith)
lines_of-cut (c ∷ text) zero within none here =
    ap (λ b. if b then [] ∷ lines_of text else with_first c (lines_of text)) (eq-eqb c 10 here)
lines_of-cut (c ∷ text) (suc k) within none here =
    ap (λ b. if b then [] ∷ lines_of text else with_first c (lines_of text)) (differs c 10 (none 0 (omega arith)))
    ∙ ap (with_first c) (lines_of-cut text k (omega arith) (λ i lt. none (suc i) (omega arith)) here)

-- where there is no LF, all is one line
pub lines_of-last : (text : List ℕ) → 0 < length text → ((i : ℕ) → i < length text → get_or text i 0 ≢ 10)
    → lines_of text ≡ text ∷ []
lines_of-last [] some none = absurd (omega arith)
lines_of-last (c ∷ []) some none = ap (λ b. if b then [] ∷ [] else (c ∷ []) ∷ []) (differs c 10 (none 0 (omega arith)))
lines_of-last (c ∷ next ∷ text) some none =
    ap (λ b. if b then [] ∷ lines_of (next ∷ text) else with_first c (lines_of (next ∷ text)))
    (differs c 10 (none 0 (omega arith)))
    ∙ ap (with_first c) (lines_of-last (next ∷ text) (omega arith) (λ i lt. none (suc i) (omega arith)))
