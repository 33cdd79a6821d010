use Rattle.std.proofs.Common.{◌≡◌, ◌∙◌, ◌==◌, ℕ, ◌≤◌, true, false, not}
use Rattle.std.proofs.Common.{◌&&◌, [], ◌∷◌, None, refl, ap, sym, subst, arith}
use Rattle.std.proofs.lemmas.Bool.{and_from, eq-eqb}
use Rattle.skk_calls.specs.declared.call.Call.{Call}
use Rattle.skk_calls.specs.declared.call.Call.TheVariants.{Learn}
use Rattle.skk_calls.specs.Rows.{RowKey, Cand, same_key}
use Rattle.skk_calls.specs.States.{State, count_of}
use Rattle.learn_index.specs.Groups.{IsGroup}
use Rattle.dictionary_tests.proofs.learning.PlainDesk.group.Goals as goal

-- two learnings in a book under two keys are a group where it has a stamp for each of 256 changes
two : (state : State) (book : ℕ) (one other : RowKey × Cand) → same_key one.0 other.0 ≡ false
    → count_of state book ≤ 18446744073709551359
    → IsGroup state (Learn book one.0 None one.1 ∷ Learn book other.0 None other.1 ∷ [])
two state book one other apart low =
    let own : (book == book) ≡ true = eq-eqb book book refl in
    record {
      some = omega arith;
      few = omega arith;
      learn = and_from (book == book) ((book == book) && true) own (and_from (book == book) true own refl);
      apart = ap (λ same. (not same && true) && true) apart;
      stamps = omega (arith, low);
    }

pub plan_group-requires : goal.plan_group-requires
plan_group-requires g c =
    subst (IsGroup c.args.self.now.index.state) (sym c.two_learnings-calls.ensures)
    (two c.args.self.now.index.state c.args.line.now.number c.key_and_cand-one.result c.key_and_cand-other.result
    (sym c.is_same.ensures ∙ c.if-assert.false) (omega (arith, c.count.ensures.value)))
