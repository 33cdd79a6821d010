use Rattle.std.proofs.Common.{◌-◌, ◌∙◌, Some, ap, arith}
use Rattle.std.specs.Vec.{vec_capacity, vec_len}
use Rattle.skk_calls.specs.States.{is_valid, state_with}
use Rattle.learn_index.specs.Kept.{kept}
use Rattle.learn_index.proofs.Books.{rows_counted}
use Rattle.learn_index.proofs.Changes.{room_there}
use Rattle.learn_index.proofs.FoundBook.{HasBook, HasPlace, book_read, kept_changed, place_inside, room_seen}
use Rattle.learn_index.proofs.FoundBook.{room_taken, row_changed, rows_among, rows_ascend_there}
use Rattle.learn_index.proofs.index.Index.set_row.Goals as goal
use Rattle.learn_index.proofs.index.Index.set_row.Goals.{After-place_of-place, After-index_mut-book}

-- the book of the number is there
found : (c : After-place_of-place)
    → HasPlace c.self.inside.books.items c.self.inside.lists.items c.self.inside.rows
    (vec_capacity c.self.inside.lists - vec_len c.self.inside.lists) c.args.self.now c.args.number
    c.place_of-place.result
found c = record {
  keeps = c.self.invariant;
  seen = c.self.view_is;
  there = room_there c.args.self.now c.args.number c.requires.room;
  point = rw c.deref.ensures.value at c.place_of-place.ensures.point;
}

-- and is the one that changes
has : (c : After-index_mut-book) → HasBook c.self.inside.books.items c.self.inside.lists.items
    c.self.inside.rows (vec_capacity c.self.inside.lists - vec_len c.self.inside.lists) c.args.self.now c.args.number
    c.place_of-place.result c.index_mut-book.result.now
has c = book_read (found (goal.at.After-index_mut-book c).After-place_of-place) c.index_mut-book.ensures.value

pub index_mut-book-requires : goal.index_mut-book-requires
index_mut-book-requires c =
    omega (arith, place_inside (found (goal.at.index_mut-book-requires c).After-place_of-place), c.self.inside.books.ok)

pub set_row-requires-clause-ascend : goal.set_row-requires-clause-ascend
set_row-requires-clause-ascend c =
    rows_ascend_there (has (goal.at.set_row-requires-clause-ascend c).After-index_mut-book)

pub set_row-requires-clause-room : goal.set_row-requires-clause-room
set_row-requires-clause-room c =
    room_seen (has (goal.at.set_row-requires-clause-room c).After-index_mut-book) c.requires.room

pub overflow_sub-self : goal.overflow_sub-self
overflow_sub-self c = omega (arith, rows_among (has (goal.at.overflow_sub-self c).After-index_mut-book), c.len.ensures)

pub overflow_add-self : goal.overflow_add-self
overflow_add-self c =
    omega (
      arith,
      rows_counted (kept c.self.inside.books.items c.self.inside.lists.items) c.self.inside.rows
          c.self.invariant,
      c.len-2.type_inv,
    )

pub returns-clause-state : goal.returns-clause-state
returns-clause-state c =
    row_changed (has (goal.at.returns-clause-state c).After-index_mut-book) c.set_row.new.self c.set_row.ensures.number
    (omega (arith, c.set_row.ensures.count, c.requires.count)) c.args.row.key (Some c.args.row) c.set_row.ensures.rows
    ∙ ap (λ n. state_with c.args.self.now.state c.args.number n c.args.row.key (Some c.args.row))
    c.set_row.ensures.count

pub returns-clause-spare : goal.returns-clause-spare
returns-clause-spare c =
    room_taken (has (goal.at.returns-clause-spare c).After-index_mut-book) c.set_row.new.self
    c.set_row.ensures.number (omega (arith, c.set_row.ensures.room))

pub invariant_of-self : goal.invariant_of-self
invariant_of-self c =
    kept_changed (has (goal.at.invariant_of-self c).After-index_mut-book) c.set_row.new.self
    c.set_row.ensures.number
    (omega (arith, c.set_row.ensures.count, c.requires.count)) c.ranges.number.fits
    (omega (arith, rows_among (has (goal.at.invariant_of-self c).After-index_mut-book), c.len.ensures, c.len-2.ensures))
    (ap is_valid (returns-clause-state c) ∙ c.requires.valid)
