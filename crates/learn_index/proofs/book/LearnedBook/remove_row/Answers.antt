use Rattle.std.proofs.Common.{◌≡◌, ◌∙◌, ap, sym}
use Rattle.learn_index.specs.Ages.{oldest_first}
use Rattle.learn_index.proofs.ByStamp.{left_in_order, oldest_ascend}
use Rattle.learn_index.proofs.Rooms.{some_items}
use Rattle.learn_index.proofs.book.LearnedBook.remove_row.Goals as goal
use Rattle.learn_index.proofs.book.LearnedBook.remove_row.Goals.{In-Some}

-- the rows by their stamps are those of the book
sorted : (c : In-Some) → c.in-Some.stamps.items ≡ oldest_first c.args.self.now.rows.items
sorted c = c.args.self.now.in_order c.in-Some.stamps (sym c.take.ensures.value ∙ c.in-Some.is)

pub without_aged-requires : goal.without_aged-requires
without_aged-requires c =
    oldest_ascend c.args.self.now.rows.items c.in-Some.stamps.items c.requires
    (sorted (goal.at.without_aged-requires c).In-Some)

pub invariant_of-self : goal.invariant_of-self
invariant_of-self c = record {
  in_order = λ stamps is.
      some_items c.without_aged.result stamps is ∙ c.without_aged.ensures.items
      ∙ left_in_order c.args.self.now.rows.items c.in-Some.stamps.items c.args.key.now c.take_row-before.result
      c.requires (sorted (goal.at.invariant_of-self c).In-Some) c.take_row-before.ensures.before
      ∙ ap oldest_first (sym c.take_row-before.ensures.rows);
}
