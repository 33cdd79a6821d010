use Rattle.std.proofs.Common.{◌≡◌, ◌∷◌, ◌++◌, [], List, ℕ, sym, subst, ◌∙◌}
use Rattle.std.proofs.lemmas.List.{append_assoc}
use Rattle.std.specs.Vec.Iter.{into_iter_items}
use Rattle.skk_journal.specs.declared.found.FoundRecord.{FoundRecord}
use Rattle.skk_journal.specs.Found.{payloads, found_from}
use Rattle.skk_journal.specs.Records.{first_place}
use Rattle.learned_store.specs.Payloads.{Says, SaysNothing, state_told}
use Rattle.learned_store.specs.Recovered.{Leave, BreakAt}
use Rattle.learned_store.proofs.Kept.{leave_on}
use Rattle.learned_store.proofs.ReadRecords.{payloads_next, break_at}
use Rattle.learned_store.proofs.recovery.recover.Goals as goal

pub returns-then-not-branch-clause-broken : goal.returns-then-not-branch-clause-broken
returns-then-not-branch-clause-broken c places =
    let found = c.in-Some.found in
    let before = c.loop-found.yielded in
    let state = c.loop-found.invariant.state in
    let rest = into_iter_items c.next.new.self in
    let all : before ++ found ∷ rest ≡ c.args.records =
    subst (λ (items : List FoundRecord). before ++ items ≡ c.args.records) c.in-Some.ensures.steps.0
    c.loop-found.invariant.all in
    let version = c.args.version in
    subst (λ (records : List FoundRecord). BreakAt (record { version = version; records = payloads records }) found.at)
    all
    (break_at before rest found
    (subst (λ (records : List FoundRecord). records ≡ found_from first_place (payloads records)) (sym all) places)
    version state c.loop-found.invariant.left
    (subst (SaysNothing version state) c.as_slice.ensures
    (c.in_ok-add.ensures.none c.if-not-branch.true state c.loop-found.invariant.gathers)))

pub loop-found-preserved : goal.loop-found-preserved
loop-found-preserved c =
    let found = c.in-Some.found in
    let before = c.loop-found.yielded in
    let state = c.loop-found.invariant.state in
    let added = c.in_ok-add.ensures.said c.if-not-branch.false state c.loop-found.invariant.gathers in
    let form = added.0 in
    let says = subst (λ (payload : List ℕ). Says c.args.version state payload form) c.as_slice.ensures added.1 in
    record {
      state = state_told state form;
      all =
          append_assoc before (found ∷ []) (into_iter_items c.next.new.self)
          ∙ subst (λ (items : List FoundRecord). before ++ items ≡ c.args.records) c.in-Some.ensures.steps.0
          c.loop-found.invariant.all;
      left =
          subst (λ (read : List (List ℕ)). Leave (record { version = c.args.version; records = read })
          (state_told state form)) (sym (payloads_next before [] found))
          (leave_on (record { version = c.args.version; records = payloads before }) state found.payload form
          c.loop-found.invariant.left says);
      gathers = added.2;
    }
