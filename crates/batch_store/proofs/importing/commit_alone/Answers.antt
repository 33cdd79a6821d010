-- A learning for itself: without memory nothing is done, and else it is a group of one.
use Rattle.std.proofs.Common.{◌≡◌, ◌∙◌, sym, ap, subst, Result, Err, List, [], ◌∷◌, ◌++◌}
use Rattle.std.proofs.lemmas.Result.{err_from_is_err_and}
use Rattle.skk_calls.specs.declared.call.Call.{Call}
use Rattle.batch_store.specs.declared.group_fault.GroupFault.{GroupFault}
use Rattle.batch_store.specs.declared.group_fault.GroupFault.TheVariants.{Memory}
use Rattle.batch_store.specs.Pieces.{CommitsGroups}
use Rattle.batch_store.proofs.GroupPieces.{alone-refused, alone-served}
use Rattle.batch_store.proofs.PieceLaws.{commits-still}
use Rattle.batch_store.proofs.importing.commit_alone.Goals as goal

pub returns-in_err-push : goal.returns-in_err-push
returns-in_err-push g c =
    let out = err_from_is_err_and c.from_residual.result c.from_residual.ensures.1 in
    let fault : out.0 ≡ Memory = out.2 in
    let groups : List (List Call) = (c.args.call ∷ []) ∷ [] in
    subst (λ (r : Result (Unit {0}) GroupFault). CommitsGroups g.D.Disk c.args.batch.now c.args.batch.now groups r)
    (sym (out.1 ∙ ap (λ (f : GroupFault). Err f) fault)) (commits-still g.D.Disk c.args.batch.now groups)

pub returns-in_err-commit : goal.returns-in_err-commit
returns-in_err-commit g c =
    let new = c.commit.new.self in
    let result = c.from_residual-in_err-commit.result in
    let out = err_from_is_err_and result c.from_residual-in_err-commit.ensures.1 in
    let fault : out.0 ≡ c.in_err-commit.field-0.0 = out.2 in
    let only-one : c.push.new.self ≡ c.args.call ∷ [] =
    c.in_ok-push.ensures.ok ∙ ap (λ (l : List Call). l ++ c.args.call ∷ []) c.new-calls.ensures in
    subst (λ (r : Result (Unit {0}) GroupFault).
    CommitsGroups g.D.Disk c.args.batch.now new ((c.args.call ∷ []) ∷ []) r)
    (sym (out.1 ∙ ap (λ (f : GroupFault). Err f) fault))
    (alone-refused g.D.Disk c.args.batch.now new (g.met.D.Disk.earlier new.store.journal.disk) c.push.new.self
    c.args.call only-one c.requires c.in_err-commit.field-0.0 c.in_err-commit.ensures.commits
    c.in_err-commit.ensures.notes)

pub returns : goal.returns
returns g c =
    let new = c.commit.new.self in
    let only-one : c.push.new.self ≡ c.args.call ∷ [] =
    c.in_ok-push.ensures.ok ∙ ap (λ (l : List Call). l ++ c.args.call ∷ []) c.new-calls.ensures in
    alone-served g.D.Disk c.args.batch.now new (g.met.D.Disk.earlier new.store.journal.disk) c.push.new.self
    c.args.call only-one c.requires c.in_ok-commit.field-0 c.in_ok-commit.ensures.commits c.in_ok-commit.ensures.notes
