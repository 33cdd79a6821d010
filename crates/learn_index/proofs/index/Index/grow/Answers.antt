use Rattle.std.proofs.Common.{◌-◌, set, arith}
use Rattle.std.specs.Vec.{vec_capacity, vec_len}
use Rattle.std.proofs.lemmas.Result.{on_ok_weaker}
use Rattle.learn_index.specs.Kept.{changed, kept}
use Rattle.learn_index.proofs.FoundBook.{HasBook, HasPlace, book_read, kept_same, place_inside, room_more}
use Rattle.learn_index.proofs.FoundBook.{rows_ascend_there, state_same}
use Rattle.learn_index.proofs.index.Index.grow.Goals as goal
use Rattle.learn_index.proofs.index.Index.grow.Goals.{After-place_of-place, After-index_mut}

-- the book of the number is there
found : (c : After-place_of-place)
    → HasPlace c.self.inside.books.items c.self.inside.lists.items c.self.inside.rows
    (vec_capacity c.self.inside.lists - vec_len c.self.inside.lists) c.args.self.now c.args.number
    c.place_of-place.result
found c = record {
  keeps = c.self.invariant;
  seen = c.self.view_is;
  there = c.requires;
  point = rw c.deref.ensures.value at c.place_of-place.ensures.point;
}

-- and is the one that changes
has : (c : After-index_mut) → HasBook c.self.inside.books.items c.self.inside.lists.items
    c.self.inside.rows (vec_capacity c.self.inside.lists - vec_len c.self.inside.lists) c.args.self.now c.args.number
    c.place_of-place.result c.index_mut.result.now
has c = book_read (found (goal.at.After-index_mut c).After-place_of-place) c.index_mut.ensures.value

pub index_mut-requires : goal.index_mut-requires
index_mut-requires c =
    omega (arith, place_inside (found (goal.at.index_mut-requires c).After-place_of-place), c.self.inside.books.ok)

pub make_room-requires : goal.make_room-requires
make_room-requires c = rows_ascend_there (has (goal.at.make_room-requires c).After-index_mut)

pub invariant_of-self : goal.invariant_of-self
invariant_of-self c =
    kept_same (has (goal.at.invariant_of-self c).After-index_mut) c.make_room.new.self c.make_room.ensures.number
    c.make_room.ensures.count c.make_room.ensures.rows

pub returns-clause-state : goal.returns-clause-state
returns-clause-state c =
    state_same (has (goal.at.returns-clause-state c).After-index_mut) c.make_room.new.self c.make_room.ensures.number
    c.make_room.ensures.count c.make_room.ensures.rows

pub returns-clause-room : goal.returns-clause-room
returns-clause-room c =
    on_ok_weaker c.make_room.result
    (room_more (has (goal.at.returns-clause-room c).After-index_mut) c.make_room.new.self
    c.make_room.ensures.number c.make_room.ensures.count c.make_room.ensures.rows
    (changed (kept (set c.self.inside.books.items c.place_of-place.result c.make_room.new.self)
    c.self.inside.lists.items)) (vec_capacity c.self.inside.lists - vec_len c.self.inside.lists) c.args.changes)
    c.make_room.ensures.room
