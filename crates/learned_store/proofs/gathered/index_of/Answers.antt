use Rattle.std.proofs.Common.{◌≡◌, ◌≤◌, true, Some, ◌∙◌, sym, subst, ℕ, List, [], ◌∷◌, length, arith}
use Rattle.std.specs.Vec.Iter.{into_iter_items}
use Rattle.skk_calls.specs.Rows.{Row}
use Rattle.skk_calls.specs.States.{State, count_of, fits_count, state_with}
use Rattle.learned_store.specs.declared.placed_row.PlacedRow.{PlacedRow}
use Rattle.learned_store.specs.Gathering.{HasRows, row_placed}
use Rattle.learned_store.proofs.Gathering.{IsPut, left_there, put_next, row_fits, row_key}
use Rattle.learned_store.proofs.Placed.{begin_there, begin_taken, rest_apart}
use Rattle.learned_store.proofs.gathered.index_of.Goals as goal

pub into_kept-requires : goal.into_kept-requires
into_kept-requires c =
    let state = c.requires.state.0 in
    let lists = c.requires.state.1 in
    let are = c.requires.state.2 in
    let first = c.in-Some.placed in
    let rows = into_iter_items c.loop-placed.placed-iterator in
    let rest = into_iter_items c.next.new.self in
    let there = left_there state c.loop-placed.index.state (row_placed rows) (row_placed rest) first.place first.row
    are.valid (c.loop-placed.invariant.put state lists are) (begin_there rows rest first c.in-Some.ensures.steps.0)
    (begin_taken rows rest first c.in-Some.ensures.steps.0 c.loop-placed.invariant.apart) in
    sym (row_key state are.valid first.place first.row there)

pub put-requires-clause-count : goal.put-requires-clause-count
put-requires-clause-count c =
    let state = c.requires.state.0 in
    let lists = c.requires.state.1 in
    let are = c.requires.state.2 in
    let book = c.in-Some.placed.place.book in
    subst (λ (n : ℕ). count_of c.loop-placed.index.state book ≤ n)
    (sym (c.count_in-count.ensures ∙ are.count book)) ((c.loop-placed.invariant.put state lists are).counts book)

pub put-requires-clause-row : goal.put-requires-clause-row
put-requires-clause-row c =
    let state = c.requires.state.0 in
    let lists = c.requires.state.1 in
    let are = c.requires.state.2 in
    let first = c.in-Some.placed in
    let rows = into_iter_items c.loop-placed.placed-iterator in
    let rest = into_iter_items c.next.new.self in
    let there = left_there state c.loop-placed.index.state (row_placed rows) (row_placed rest) first.place first.row
    are.valid (c.loop-placed.invariant.put state lists are) (begin_there rows rest first c.in-Some.ensures.steps.0)
    (begin_taken rows rest first c.in-Some.ensures.steps.0 c.loop-placed.invariant.apart) in
    subst (λ (row : Row). fits_count c.count_in-count.result row ≡ true) (sym c.in_ok-row.ensures)
    (subst (λ (n : ℕ). fits_count n first.row ≡ true)
    (sym (c.count_in-count.ensures ∙ are.count first.place.book))
    (row_fits state are.valid first.place first.row there))

pub loop-placed-preserved : goal.loop-placed-preserved
loop-placed-preserved c =
    let first = c.in-Some.placed in
    let rows = into_iter_items c.loop-placed.placed-iterator in
    let rest = into_iter_items c.next.new.self in
    let is = c.in-Some.ensures.steps.0 in
    let apart = c.loop-placed.invariant.apart in
    record {
      apart = rest_apart rows rest first is apart;
      put = λ state lists are. subst (λ (now : State). IsPut state now (row_placed rest)) (sym c.in_ok-put.ensures.ok)
          (subst (λ (row : Row). IsPut state (state_with c.loop-placed.index.state first.place.book
          c.count_in-count.result row.key (Some row)) (row_placed rest)) (sym c.in_ok-row.ensures)
          (put_next state c.loop-placed.index.state (row_placed rows) (row_placed rest) first.place first.row
          are.valid (c.loop-placed.invariant.put state lists are) (begin_there rows rest first is)
          (begin_taken rows rest first is apart) c.count_in-count.result
          (c.count_in-count.ensures ∙ are.count first.place.book)));
    }

-- where no row is left all stand in the index
all_put : (state index : State) (left : List PlacedRow) → length left ≡ 0 → IsPut state index (row_placed left)
    → HasRows state index
all_put state index [] none put = record {
  valid = put.valid;
  counts = put.counts;
  rows = λ number key. sym (put.rows number key);
  lists = put.lists;
}
all_put state index (row ∷ left) none put = absurd (omega arith)

pub returns : goal.returns
returns c state lists are =
    let left = c.loop-placed.placed-iterator in
    all_put state c.loop-placed.index.state (into_iter_items left) (sym left.rest.ok.0 ∙ c.in-None.ensures.steps.0)
    (c.loop-placed.invariant.put state lists are)
