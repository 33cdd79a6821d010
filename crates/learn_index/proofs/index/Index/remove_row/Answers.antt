use Rattle.std.proofs.Common.{◌-◌, ◌∙◌, None, ap, arith}
use Rattle.std.specs.Vec.{vec_capacity, vec_len}
use Rattle.skk_calls.specs.States.{is_valid, state_with}
use Rattle.learn_index.specs.Kept.{kept}
use Rattle.learn_index.proofs.Books.{rows_counted}
use Rattle.learn_index.proofs.FoundBook.{HasBook, HasPlace, book_read, kept_changed, place_inside, row_changed}
use Rattle.learn_index.proofs.FoundBook.{room_taken, rows_among, rows_ascend_there}
use Rattle.learn_index.proofs.index.Index.remove_row.Goals as goal
use Rattle.learn_index.proofs.index.Index.remove_row.Goals.{After-place_of-place, After-index_mut-book}

-- the book of the number is there
found : (c : After-place_of-place)
    → HasPlace c.self.inside.books.items c.self.inside.lists.items c.self.inside.rows
    (vec_capacity c.self.inside.lists - vec_len c.self.inside.lists) c.args.self.now c.args.number
    c.place_of-place.result
found c = record {
  keeps = c.self.invariant;
  seen = c.self.view_is;
  there = c.requires.there;
  point = rw c.deref.ensures.value at c.place_of-place.ensures.point;
}

-- and is the one that changes
has : (c : After-index_mut-book) → HasBook c.self.inside.books.items c.self.inside.lists.items
    c.self.inside.rows (vec_capacity c.self.inside.lists - vec_len c.self.inside.lists) c.args.self.now c.args.number
    c.place_of-place.result c.index_mut-book.result.now
has c = book_read (found (goal.at.After-index_mut-book c).After-place_of-place) c.index_mut-book.ensures.value

pub index_mut-book-requires : goal.index_mut-book-requires
index_mut-book-requires c =
    omega (arith, place_inside (found (goal.at.index_mut-book-requires c).After-place_of-place), c.self.inside.books.ok)

pub remove_row-requires : goal.remove_row-requires
remove_row-requires c = rows_ascend_there (has (goal.at.remove_row-requires c).After-index_mut-book)

pub overflow_sub-self : goal.overflow_sub-self
overflow_sub-self c = omega (arith, rows_among (has (goal.at.overflow_sub-self c).After-index_mut-book), c.len.ensures)

pub overflow_add-self : goal.overflow_add-self
overflow_add-self c =
    omega (
      arith,
      rows_counted (kept c.self.inside.books.items c.self.inside.lists.items) c.self.inside.rows
          c.self.invariant,
      c.len-2.type_inv,
    )

pub returns-clause-state : goal.returns-clause-state
returns-clause-state c =
    row_changed (has (goal.at.returns-clause-state c).After-index_mut-book) c.remove_row.new.self
    c.remove_row.ensures.number
    (omega (arith, c.remove_row.ensures.count, c.requires.count)) c.args.key.now None c.remove_row.ensures.rows
    ∙ ap (λ n. state_with c.args.self.now.state c.args.number n c.args.key.now None)
    c.remove_row.ensures.count

pub returns-clause-spare : goal.returns-clause-spare
returns-clause-spare c =
    room_taken (has (goal.at.returns-clause-spare c).After-index_mut-book) c.remove_row.new.self
    c.remove_row.ensures.number (omega (arith, c.remove_row.ensures.room))

pub invariant_of-self : goal.invariant_of-self
invariant_of-self c =
    kept_changed (has (goal.at.invariant_of-self c).After-index_mut-book) c.remove_row.new.self
    c.remove_row.ensures.number
    (omega (arith, c.remove_row.ensures.count, c.requires.count)) c.ranges.number.fits
    (omega (arith, rows_among (has (goal.at.invariant_of-self c).After-index_mut-book), c.len.ensures, c.len-2.ensures))
    (ap is_valid (returns-clause-state c) ∙ c.requires.valid)
