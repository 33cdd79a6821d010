use Rattle.std.proofs.Common.{◌≡◌, ◌≤◌, ◌∙◌, ℕ, List, subst, sym}
use Rattle.skk_calls.specs.States.{State, count_of}
use Rattle.learned_store.specs.declared.gathered.Gathered.{Gathered}
use Rattle.learned_store.specs.declared.placed_row.PlacedRow.{PlacedRow}
use Rattle.learned_store.specs.declared.row_place.RowPlace.{RowPlace}
use Rattle.learned_store.specs.Gathering.{AreOf, Gathers, place_at, row_among, row_placed}
use Rattle.learned_store.proofs.Gathering.{same_counts, same_books_rows}
use Rattle.learned_store.proofs.SameStates.{same_state}
use Rattle.learned_store.proofs.gathered.Gathered.into_index.Goals as goal

-- rows that were put in order are those of what was gathered
in_order_are : (all : Gathered) (rows : List PlacedRow) (state : State)
    → ((place : RowPlace) → row_placed rows place ≡ row_among all.rows place) → Gathers all state
    → AreOf state all.counts all.lists (row_placed rows)
in_order_are all rows state same gathers = record {
  valid = gathers.valid;
  count = gathers.count;
  list = gathers.list;
  row = λ number key. same (place_at number key) ∙ gathers.row number key;
}

pub index_of-requires-clause-state : goal.index_of-requires-clause-state
index_of-requires-clause-state c =
    let state = c.requires.0 in (
      state,
      c.args.self.lists,
      in_order_are c.args.self c.in_ok-rows.rows.items state c.in_ok-rows.ensures.rows c.requires.1,
    )

pub give_counts-requires-clause-below : goal.give_counts-requires-clause-below
give_counts-requires-clause-below c number =
    let state = c.requires.0 in
    let are = in_order_are c.args.self c.in_ok-rows.rows.items state c.in_ok-rows.ensures.rows c.requires.1 in
    subst (λ (n : ℕ). count_of c.in_ok-index.index.state number ≤ n) (sym (are.count number))
    ((c.in_ok-index.ensures state c.args.self.lists are).counts number)

pub give_lists-requires-clause-none : goal.give_lists-requires-clause-none
give_lists-requires-clause-none c =
    let state = c.requires.0 in
    let are = in_order_are c.args.self c.in_ok-rows.rows.items state c.in_ok-rows.ensures.rows c.requires.1 in
    c.in_ok-give_counts.ensures.lists ∙ (c.in_ok-index.ensures state c.args.self.lists are).lists

pub returns : goal.returns
returns c state gathers =
    let are = in_order_are c.args.self c.in_ok-rows.rows.items state c.in_ok-rows.ensures.rows gathers in
    let has = c.in_ok-index.ensures state c.args.self.lists are in
    let counted = c.give_counts.new.index.state in
    let given = c.give_lists.new.index.state in
    let books = c.in_ok-give_lists.ensures.books in
    c.order_by_stamp.ensures
    ∙ same_state given state c.in_ok-give_lists.ensures.valid gathers.valid
    (λ number. same_counts given counted books number ∙ c.in_ok-give_counts.ensures.counts number
    ∙ gathers.count number)
    (λ number key. same_books_rows given counted books number key ∙ c.in_ok-give_counts.ensures.rows number key
    ∙ has.rows number key)
    (λ typist. c.in_ok-give_lists.ensures.lists typist ∙ gathers.list typist)
