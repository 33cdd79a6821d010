-- The groups of a level: those so far, the next one, and where it is refused those behind it.
use Rattle.std.proofs.Common.{◌≡◌, ◌∙◌, ◌+◌, ◌-◌, Bor, refl, sym, ap, subst, arith}
use Rattle.std.proofs.Common.{Result, Ok, Err, List, [], ◌∷◌, ◌++◌, map, drop}
use Rattle.std.proofs.lemmas.Result.{err_from_is_err_and}
use Rattle.skk_text.specs.PairsLaws.{list_all-take}
use Rattle.skk_calls.specs.declared.call.Call.{Call}
use Rattle.skk_calls.specs.Rows.{Row}
use Rattle.learn_index.specs.Groups.{IsGroup}
use Rattle.batch_store.specs.declared.group_fault.GroupFault.{GroupFault}
use Rattle.batch_store.specs.declared.group_fault.GroupFault.TheVariants.{Memory}
use Rattle.batch_store.specs.Learnings.{in_groups, learnings_at}
use Rattle.batch_store.specs.Levels.{has_rank}
use Rattle.batch_store.specs.Pieces.{CommitsGroups, HasStampsFor}
use Rattle.batch_store.proofs.LearningLaws.{list_all-drop}
use Rattle.batch_store.proofs.LevelGroups.{calls-behind, group-at, groups-behind, next-lent}
use Rattle.batch_store.proofs.PieceLaws.{commits-none, commits-on, commits-refused, commits-still}
use Rattle.batch_store.proofs.importing.import_level.Goals as goal

-- a row as it is borrowed
abbrev own : Bor Row → Row
own row = row.now

pub loop-place-init : goal.loop-place-init
loop-place-init g c = record {
  done = [];
  served = commits-none g.D.Disk c.args.batch.now;
  left = refl;
  stamps = omega arith;
  low = omega arith;
}

pub learnings_at-requires : goal.learnings_at-requires
learnings_at-requires g c =
    let rows = c.args.rows.now in
    list_all-take (λ (row : Bor Row). has_rank c.args.rank row.now) _ (drop c.loop-place.place rows)
    (list_all-drop (λ (row : Bor Row). has_rank c.args.rank row.now) c.loop-place.place rows c.requires.ranked)

pub commit_group-requires-clause-group : goal.commit_group-requires-clause-group
commit_group-requires-clause-group g c =
    let rows = c.args.rows.now in
    let place = c.loop-place.place in
    let kept = c.loop-place.invariant in
    let state = c.loop-place.batch.store.state in
    let same = next-lent own c.args.number c.args.rank rows place c.min.result c.requires.ranked c.requires.differ
    c.loop-place-test.true c.min.ensures (place + c.min.result - place) (omega arith) in
    subst (λ (calls : List Call). IsGroup state calls)
    (sym (c.in_ok-calls.ensures ∙ ap (λ (r : List Row). learnings_at c.args.number r c.args.rank) same))
    (group-at own c.args.number c.args.rank rows place c.min.result c.requires.ranked c.requires.differ
    c.loop-place-test.true c.min.ensures state
    (let counted = kept.served.counted c.args.number in
    omega (arith, counted, kept.stamps, c.requires.stamps, c.loop-place-test.true))).0

pub commit_group-requires-clause-stamps : goal.commit_group-requires-clause-stamps
commit_group-requires-clause-stamps g c =
    let rows = c.args.rows.now in
    let place = c.loop-place.place in
    let kept = c.loop-place.invariant in
    let state = c.loop-place.batch.store.state in
    let same = next-lent own c.args.number c.args.rank rows place c.min.result c.requires.ranked c.requires.differ
    c.loop-place-test.true c.min.ensures (place + c.min.result - place) (omega arith) in
    subst (λ (calls : List Call). HasStampsFor state calls)
    (sym (c.in_ok-calls.ensures ∙ ap (λ (r : List Row). learnings_at c.args.number r c.args.rank) same))
    (group-at own c.args.number c.args.rank rows place c.min.result c.requires.ranked c.requires.differ
    c.loop-place-test.true c.min.ensures state
    (let counted = kept.served.counted c.args.number in
    omega (arith, counted, kept.stamps, c.requires.stamps, c.loop-place-test.true))).1

-- memory was out for the next group
pub returns-in_err-calls : goal.returns-in_err-calls
returns-in_err-calls g c =
    let kept = c.loop-place.invariant in
    let mid = c.loop-place.batch in
    let left = map own (drop c.loop-place.place c.args.rows.now) in
    let others = in_groups (learnings_at c.args.number left c.args.rank) in
    let out = err_from_is_err_and c.from_residual.result c.from_residual.ensures.1 in
    let fault : out.0 ≡ Memory = out.2 in
    subst (λ (r : Result (Unit {0}) GroupFault). CommitsGroups g.D.Disk c.args.batch.now mid
    (in_groups (learnings_at c.args.number (map own c.args.rows.now) c.args.rank)) r)
    (sym (out.1 ∙ ap (λ (f : GroupFault). Err f) fault))
    (subst (λ (groups : List (List Call)). CommitsGroups g.D.Disk c.args.batch.now mid groups (Err Memory)) kept.left
    (commits-on g.D.Disk c.args.batch.now mid mid kept.done others (Err Memory)
    (g.met.D.Disk.earlier mid.store.journal.disk) kept.served (commits-still g.D.Disk mid others)))

-- the next group was refused
pub returns-in_err-commit_group : goal.returns-in_err-commit_group
returns-in_err-commit_group g c =
    let rows = c.args.rows.now in
    let place = c.loop-place.place in
    let kept = c.loop-place.invariant in
    let new = c.commit_group.new.batch in
    let calls = c.in_ok-calls.calls in
    let all = in_groups (learnings_at c.args.number (map own rows) c.args.rank) in
    let same = next-lent own c.args.number c.args.rank rows place c.min.result c.requires.ranked c.requires.differ
    c.loop-place-test.true c.min.ensures (place + c.min.result - place) (omega arith) in
    let others = in_groups (learnings_at c.args.number (map own (drop (place + c.min.result) rows)) c.args.rank) in
    let behind = groups-behind own c.args.number c.args.rank rows place c.min.result c.requires.ranked
    c.requires.differ c.loop-place-test.true c.min.ensures calls
    (c.in_ok-calls.ensures ∙ ap (λ (r : List Row). learnings_at c.args.number r c.args.rank) same) kept.done all
    kept.left in
    let fault : GroupFault = c.in_err-commit_group.field-0.0 in
    let out = err_from_is_err_and c.from_residual-in_err-commit_group.result
    c.from_residual-in_err-commit_group.ensures.1 in
    let is : out.0 ≡ fault = out.2 in
    subst (λ (r : Result (Unit {0}) GroupFault). CommitsGroups g.D.Disk c.args.batch.now new all r)
    (sym (out.1 ∙ ap (λ (f : GroupFault). Err f) is))
    (subst (λ (groups : List (List Call)). CommitsGroups g.D.Disk c.args.batch.now new groups (Err fault)) behind
    (commits-refused g.D.Disk c.args.batch.now new (kept.done ++ calls ∷ []) others fault
    (commits-on g.D.Disk c.args.batch.now c.loop-place.batch new kept.done (calls ∷ []) (Err fault)
    (g.met.D.Disk.earlier new.store.journal.disk) kept.served c.in_err-commit_group.ensures)))

-- it was served
pub loop-place-preserved : goal.loop-place-preserved
loop-place-preserved g c =
    let rows = c.args.rows.now in
    let place = c.loop-place.place in
    let kept = c.loop-place.invariant in
    let new = c.commit_group.new.batch in
    let calls = c.in_ok-calls.calls in
    let all = in_groups (learnings_at c.args.number (map own rows) c.args.rank) in
    let same = next-lent own c.args.number c.args.rank rows place c.min.result c.requires.ranked c.requires.differ
    c.loop-place-test.true c.min.ensures (place + c.min.result - place) (omega arith) in
    let are = c.in_ok-calls.ensures ∙ ap (λ (r : List Row). learnings_at c.args.number r c.args.rank) same in
    record {
      done = kept.done ++ calls ∷ [];
      served = commits-on g.D.Disk c.args.batch.now c.loop-place.batch new kept.done (calls ∷ []) (Ok tt)
          (g.met.D.Disk.earlier new.store.journal.disk) kept.served c.in_ok-commit_group.ensures;
      left = groups-behind own c.args.number c.args.rank rows place c.min.result c.requires.ranked
          c.requires.differ c.loop-place-test.true c.min.ensures calls are kept.done all kept.left;
      stamps = calls-behind own c.args.number c.args.rank rows place c.min.result c.requires.ranked
          c.requires.differ c.loop-place-test.true c.min.ensures calls are kept.done kept.stamps;
      low = omega (arith, c.loop-place-test.true, c.min.ensures);
    }
