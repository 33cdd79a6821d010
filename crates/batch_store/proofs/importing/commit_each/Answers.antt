-- Learnings each for itself: those so far, one more, and where one is refused those behind it.
use Rattle.std.proofs.Common.{◌≡◌, ◌∙◌, sym, ap, subst, Result, Ok, Err}
use Rattle.std.proofs.Common.{List, [], ◌∷◌, ◌++◌, map, length, append_assoc, refl, rules}
use Rattle.std.proofs.lemmas.List.{append-nil, map-append}
use Rattle.std.proofs.lemmas.Result.{err_from_is_err_and}
use Rattle.std.specs.Vec.Iter.{into_iter_items}
use Rattle.skk_calls.specs.declared.call.Call.{Call}
use Rattle.batch_store.specs.declared.group_fault.GroupFault.{GroupFault}
use Rattle.batch_store.specs.Pieces.{CommitsGroups}
use Rattle.batch_store.proofs.GroupPieces.{alone-group}
use Rattle.batch_store.proofs.PieceLaws.{commits-none, commits-on, commits-refused}
use Rattle.batch_store.proofs.importing.commit_each.Goals as goal

-- a list with nothing in it
empty : {X : Type 0} (xs : List X) → length xs ≡ 0 → xs ≡ []
empty [] e = refl
empty (x ∷ xs) e = absurd (cc e)

pub loop-call-init : goal.loop-call-init
loop-call-init g c = record { all = search rules; served = commits-none g.D.Disk c.args.batch.now }

pub commit_alone-requires : goal.commit_alone-requires
commit_alone-requires g c =
    let front = c.loop-call.yielded in
    let call = c.in-Some.call in
    let rest = into_iter_items c.next.new.self in
    let all : front ++ call ∷ rest ≡ c.args.calls =
    subst (λ (items : List Call). front ++ items ≡ c.args.calls) c.in-Some.ensures.steps.0
    c.loop-call.invariant.all in
    alone-group c.args.batch.now.store.state c.loop-call.batch.store.state c.args.calls front call rest all
    c.requires.group c.requires.stamps c.loop-call.invariant.served.counted

pub loop-call-preserved : goal.loop-call-preserved
loop-call-preserved g c =
    let front = c.loop-call.yielded in
    let call = c.in-Some.call in
    let rest = into_iter_items c.next.new.self in
    let new = c.commit_alone.new.batch in
    record {
      all =
          append_assoc front (call ∷ []) rest
          ∙ subst (λ (items : List Call). front ++ items ≡ c.args.calls) c.in-Some.ensures.steps.0
          c.loop-call.invariant.all;
      served =
          subst (λ (groups : List (List Call)). CommitsGroups g.D.Disk c.args.batch.now new groups (Ok tt))
          (sym (map-append (λ (one : Call). one ∷ []) front (call ∷ [])))
          (commits-on g.D.Disk c.args.batch.now c.loop-call.batch new (map (λ (one : Call). one ∷ []) front)
          ((call ∷ []) ∷ []) (Ok tt) (g.met.D.Disk.earlier new.store.journal.disk) c.loop-call.invariant.served
          c.in_ok-commit_alone.ensures);
    }

pub returns-in_err-commit_alone : goal.returns-in_err-commit_alone
returns-in_err-commit_alone g c =
    let front = c.loop-call.yielded in
    let call = c.in-Some.call in
    let rest = into_iter_items c.next.new.self in
    let new = c.commit_alone.new.batch in
    let fault : GroupFault = c.in_err-commit_alone.field-0.0 in
    let all : front ++ call ∷ rest ≡ c.args.calls =
    subst (λ (items : List Call). front ++ items ≡ c.args.calls) c.in-Some.ensures.steps.0
    c.loop-call.invariant.all in
    let out = err_from_is_err_and c.from_residual.result c.from_residual.ensures.1 in
    let same : out.0 ≡ fault = out.2 in
    let alone : List Call → List (List Call) = λ calls. map (λ (one : Call). one ∷ []) calls in
    let groups : (alone front ++ (call ∷ []) ∷ []) ++ alone rest ≡ alone c.args.calls =
    append_assoc (alone front) ((call ∷ []) ∷ []) (alone rest)
    ∙ sym (map-append (λ (one : Call). one ∷ []) front (call ∷ rest))
    ∙ ap alone all in
    subst (λ (r : Result (Unit {0}) GroupFault). CommitsGroups g.D.Disk c.args.batch.now new (alone c.args.calls) r)
    (sym (out.1 ∙ ap (λ (f : GroupFault). Err f) same))
    (subst (λ (those : List (List Call)). CommitsGroups g.D.Disk c.args.batch.now new those (Err fault)) groups
    (commits-refused g.D.Disk c.args.batch.now new (alone front ++ (call ∷ []) ∷ []) (alone rest) fault
    (commits-on g.D.Disk c.args.batch.now c.loop-call.batch new (alone front) ((call ∷ []) ∷ []) (Err fault)
    (g.met.D.Disk.earlier new.store.journal.disk) c.loop-call.invariant.served c.in_err-commit_alone.ensures)))

pub returns : goal.returns
returns g c =
    let front = c.loop-call.yielded in
    let rest = c.loop-call.call-iterator in
    let none : into_iter_items rest ≡ [] = empty (into_iter_items rest) (search (rules, c.in-None.ensures.steps.0)) in
    let all : front ≡ c.args.calls =
    sym (append-nil front) ∙ ap (λ (l : List Call). front ++ l) (sym none) ∙ c.loop-call.invariant.all in
    subst (λ (calls : List Call).
    CommitsGroups g.D.Disk c.args.batch.now c.loop-call.batch (map (λ (one : Call). one ∷ []) calls) (Ok tt)) all
    c.loop-call.invariant.served
