-- An idle file does not count: it is fresh, or it gives way.
use Rattle.std.proofs.Common.{◌≡◌, ◌≢◌, inl, inr, ℕ, ◌≤◌, Bool, true, not, ◌||◌, ◌&&◌, ◌==◌}
use Rattle.std.proofs.Common.{List, [], ◌∷◌, ◌++◌, length}
use Rattle.std.proofs.Common.{refl, sym, ◌∙◌, ap, subst, arith}
use Rattle.std.proofs.lemmas.Bool.{cases_eq}
use Rattle.std.proofs.lemmas.Bool.Decides.{nat_tests}
use Rattle.std.specs.Prelude.{Option}
use Rattle.skk_journal.specs.declared.live.Live.{Live}
use Rattle.skk_journal.specs.declared.live.Idle.{Idle}
use Rattle.skk_journal.specs.declared.live.Idle.TheVariants.{Blank, Loose, Stray}
use Rattle.skk_journal.specs.Records.{mark, IsVersion}
use Rattle.skk_journal.specs.Heads.{is_version, is_fresh}
use Rattle.skk_journal.specs.HeadLaws.{version_tested}
use Rattle.skk_journal.specs.Idle.{GivesWay, IsIdle, IsBlank, IsLoose, IsStray, IsKnown}

module _ (newest : ℕ) where
  -- a file whose first byte is 0 is fresh
  pub shut_fresh : (rest : List ℕ) → is_fresh newest (0 ∷ rest) ≡ true
  shut_fresh [] = refl
  shut_fresh (second ∷ rest) = refl

  -- a file of one byte at most is fresh
  pub short_fresh : (file : List ℕ) → length file ≤ 1 → is_fresh newest file ≡ true
  short_fresh [] short = refl
  short_fresh (first ∷ []) short = refl
  short_fresh (first ∷ second ∷ rest) short = absurd (omega arith)

  -- a file with a right mark whose first byte is not 1 is fresh
  pub marked_fresh : (first version : ℕ) (rest : List ℕ) → IsVersion newest version → first ≢ 1
      → is_fresh newest (first ∷ (mark version ++ rest)) ≡ true
  marked_fresh first version rest right shut = by first (is_version newest version) (version_tested _ _ right) shut
    where
      by : (first : ℕ) (marked : Bool) → marked ≡ true → first ≢ 1
          → (first == 0 || (not (first == 1) && marked)) ≡ true
      by first marked is shut = grind (arith, nat_tests)

  module _ (beside : Option Live) where
    pub blank_idle : (file : List ℕ) → IsBlank file → IsIdle newest beside file
    blank_idle file (rest, is) = inl (subst (λ (l : List ℕ). is_fresh newest l ≡ true) (sym is) (shut_fresh rest))

    pub loose_idle : (file : List ℕ) → IsLoose newest beside file → IsIdle newest beside file
    loose_idle file (inl short) = inl (short_fresh file short)
    loose_idle file (inr (first, version, rest, is, right, gives)) = elim (cases_eq first 1) [
      | inl is_open ↦
          inr (subst (λ (l : List ℕ). GivesWay newest beside l)
          (sym (is ∙ ap (λ (n : ℕ). n ∷ (mark version ++ rest)) is_open)) gives)
      | inr shut ↦
          inl (subst (λ (l : List ℕ). is_fresh newest l ≡ true) (sym is)
          (marked_fresh first version rest right shut))
    ]

    pub stray_idle : (file : List ℕ) → IsStray newest file → IsIdle newest beside file
    stray_idle file (first, version, rest, is, right, some, shut) =
        inl (subst (λ (l : List ℕ). is_fresh newest l ≡ true) (sym is) (marked_fresh first version rest right shut))

    -- whatever is known of it, an idle file does not count
    pub known_idle : (idle : Idle) (file : List ℕ) → IsKnown newest beside idle file → IsIdle newest beside file
    known_idle Blank file known = blank_idle file known
    known_idle Loose file known = loose_idle file known
    known_idle Stray file known = stray_idle file known
