use Rattle.std.proofs.Common.{◌≡◌, ◌∙◌, ap, sym}
use Rattle.learn_index.specs.Ages.{oldest_first}
use Rattle.learn_index.proofs.ByStamp.{exchanged_in_order, oldest_ascend, shared_new}
use Rattle.learn_index.proofs.Rooms.{room_first, room_second}
use Rattle.learn_index.proofs.book.LearnedBook.set_row.Goals as goal
use Rattle.learn_index.proofs.book.LearnedBook.set_row.Goals.{In-Some}

-- the rows by their stamps are those of the book
sorted : (c : In-Some) → c.in-Some.stamps.items ≡ oldest_first c.args.self.now.rows.items
sorted c = c.args.self.now.in_order c.in-Some.stamps (sym c.take.ensures.value ∙ c.in-Some.is)

pub put_row-before-requires-clause-room : goal.put_row-before-requires-clause-room
put_row-before-requires-clause-room c = room_first c.args.self.now.rows c.args.self.now.by_stamp c.requires.room

pub exchanged-requires-clause-ascend : goal.exchanged-requires-clause-ascend
exchanged-requires-clause-ascend c =
    oldest_ascend c.args.self.now.rows.items c.in-Some.stamps.items c.requires.ascend
    (sorted (goal.at.exchanged-requires-clause-ascend c).In-Some)

pub exchanged-requires-clause-room : goal.exchanged-requires-clause-room
exchanged-requires-clause-room c =
    room_second c.args.self.now.rows c.args.self.now.by_stamp c.requires.room c.in-Some.stamps
    (sym c.take.ensures.value ∙ c.in-Some.is)

pub exchanged-requires-clause-new : goal.exchanged-requires-clause-new
exchanged-requires-clause-new c =
    shared_new c.args.self.now.rows.items c.in-Some.stamps.items c.args.row c.put_row-before.result
    c.share-shared.result c.requires.ascend (sorted (goal.at.exchanged-requires-clause-new c).In-Some)
    c.put_row-before.ensures.before c.share-shared.ensures

pub invariant_of-self : goal.invariant_of-self
invariant_of-self c = record {
  in_order = λ after is.
      exchanged_in_order c.args.self.now.rows.items c.in-Some.stamps.items c.args.row c.put_row-before.result
      c.share-shared.result c.requires.ascend (sorted (goal.at.invariant_of-self c).In-Some)
      c.put_row-before.ensures.before c.share-shared.ensures after.items (c.exchanged.ensures.items after is)
      ∙ ap oldest_first (sym c.put_row-before.ensures.rows);
}
