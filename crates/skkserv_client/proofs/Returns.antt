-- The CR at the end of a line.
use Rattle.std.proofs.Common.{◌≡◌, ◌≢◌, ◌∙◌, ◌==◌, ℕ, false, List, [], ◌∷◌, ◌++◌, if◌then◌else◌, length, ap, arith}
use Rattle.std.proofs.Common.{refl, sym}
use Rattle.std.proofs.lemmas.Bool.{ne_eqb}
use Rattle.std.proofs.lemmas.Grind.{common_steps}
use Rattle.exact_readers.specs.LineLaws.{return-gone}
use Rattle.exact_readers.specs.Lines.{without_return}

-- a CR goes
pub return_there : (line front : List ℕ) (last : ℕ) → line ≡ front ++ last ∷ [] → last ≡ 13
    → front ≡ without_return line
return_there line front last is at =
    sym (ap without_return (is ∙ ap (λ c. front ++ c ∷ []) at) ∙ return-gone front)

-- another character stays
stays : (xs : List ℕ) (c : ℕ) → (c == 13) ≡ false → without_return (xs ++ c ∷ []) ≡ xs ++ c ∷ []
stays [] c other = ap (λ b. if b then [] else c ∷ []) other
stays (d ∷ []) c other = ap (λ b. d ∷ (if b then [] else c ∷ [])) other
stays (d ∷ e ∷ xs) c other = ap (λ ys. d ∷ ys) (stays (e ∷ xs) c other)

pub return_absent : (line front : List ℕ) (last : ℕ) → line ≡ front ++ last ∷ [] → last ≢ 13
    → line ≡ without_return line
return_absent line front last is other =
    is ∙ sym (stays front last (ne_eqb last 13 other)) ∙ sym (ap without_return is)

-- nothing stays
pub return_nowhere : (line : List ℕ) → length line ≡ 0 → line ≡ without_return line
return_nowhere [] e = refl
return_nowhere (c ∷ line) e = absurd (omega (arith, e))

pub ruleset returns_cut = (common_steps, return_there, return_absent, return_nowhere)
