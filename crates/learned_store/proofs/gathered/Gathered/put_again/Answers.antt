use Rattle.std.proofs.Common.{◌≤◌, ℕ, List, sym, subst, arith}
use Rattle.std.proofs.lemmas.Result.{IfOk-weaker}
use Rattle.learned_store.specs.Gathering.{IsAdded}
use Rattle.learned_store.proofs.gathered.Gathered.put_again.Goals as goal

pub returns-in-Some-clause-again : goal.returns-in-Some-clause-again
returns-in-Some-clause-again c =
    let some : 1 ≤ c.args.version = omega (arith, c.if-version-ge1.true) in
    IfOk-weaker c.put_row_again.result _ _ (λ done again yes state gathers.
    subst (λ (payload : List ℕ). IsAdded c.args.version state payload c.put_row_again.new.self)
    (sym c.in-Some.ensures.is) (again yes state c.args.version some gathers)) c.put_row_again.ensures.again
