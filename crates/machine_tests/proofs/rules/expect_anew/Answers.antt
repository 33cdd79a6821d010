use Rattle.std.proofs.Common.{◌≡◌, ℕ, false, List, [], ◌∷◌, ◌++◌, ◌∙◌, rules, refl, sym}
use Rattle.romaji_rules.specs.declared.rule.Rule.{Rule}
use Rattle.romaji_rules.specs.Typed.{goes_on, extends_pending}
use Rattle.machine_tests.proofs.rules.expect_anew.Goals as goal

-- what is pending is not extended by a character that does not go on with it
not-extended : (rules : List Rule) (pending : List ℕ) (c : ℕ) → goes_on rules (pending ++ c ∷ []) ≡ false
    → extends_pending rules pending c ≡ false
not-extended rules [] c e = refl
not-extended rules (b ∷ pending) c e = e

pub feed_anew-requires : goal.feed_anew-requires
feed_anew-requires g c =
    not-extended c.args.rules.now c.args.pending.now 113 (sym c.goes_on.ensures.computed ∙ search rules)
