use Rattle.std.proofs.Common.{◌-◌, ◌∙◌, length, ap, arith}
use Rattle.std.specs.Vec.{vec_capacity, vec_len}
use Rattle.skk_calls.specs.States.{is_valid}
use Rattle.learn_index.specs.Records.{state_counted}
use Rattle.learn_index.proofs.FoundBook.{HasBook, HasPlace, book_read, count_changed, kept_changed, place_inside}
use Rattle.learn_index.proofs.index.Index.give_count.Goals as goal
use Rattle.learn_index.proofs.index.Index.give_count.Goals.{After-place_of-place, After-index_mut}

-- the book of the number is there
found : (c : After-place_of-place)
    → HasPlace c.self.inside.books.items c.self.inside.lists.items c.self.inside.rows
    (vec_capacity c.self.inside.lists - vec_len c.self.inside.lists) c.args.self.now c.args.number
    c.place_of-place.result
found c = record {
  keeps = c.self.invariant;
  seen = c.self.view_is;
  there = c.requires.there;
  point = rw c.deref.ensures.value at c.place_of-place.ensures.point;
}

-- and is the one that changes
has : (c : After-index_mut) → HasBook c.self.inside.books.items c.self.inside.lists.items
    c.self.inside.rows (vec_capacity c.self.inside.lists - vec_len c.self.inside.lists) c.args.self.now c.args.number
    c.place_of-place.result c.index_mut.result.now
has c = book_read (found (goal.at.After-index_mut c).After-place_of-place) c.index_mut.ensures.value

pub index_mut-requires : goal.index_mut-requires
index_mut-requires c =
    omega (arith, place_inside (found (goal.at.index_mut-requires c).After-place_of-place), c.self.inside.books.ok)

pub returns : goal.returns
returns c =
    count_changed (has (goal.at.returns c).After-index_mut) c.set_count.new.self c.set_count.ensures.number
    (omega (arith, c.set_count.ensures.count, c.requires.count))
    c.set_count.ensures.rows
    ∙ ap (state_counted c.args.self.now.state c.args.number) c.set_count.ensures.count

pub invariant_of-self : goal.invariant_of-self
invariant_of-self c =
    kept_changed (has (goal.at.invariant_of-self c).After-index_mut) c.set_count.new.self c.set_count.ensures.number
    (omega (arith, c.set_count.ensures.count, c.requires.count)) c.ranges.number.fits
    (omega (
      arith,
      ap length c.set_count.ensures.rows,
      c.set_count.new.self.rows.ok,
      c.index_mut.result.now.rows.ok,
    ))
    (ap is_valid (returns c) ∙ c.requires.valid)
