use Rattle.std.proofs.Common.{◌≡◌, ◌≤◌, Option, subst, arith}
use Rattle.std.proofs.Math.Facts.{Fits-lt-pow}
use Rattle.std.specs.Option.{IfSome}
use Rattle.learned_store.specs.declared.row_place.RowPlace.{RowPlace}
use Rattle.learned_store.specs.Gathering.{count_in, row_among}
use Rattle.learned_store.proofs.Again.{added}
use Rattle.learned_store.proofs.ReadForms.{held}
use Rattle.learned_store.proofs.gathered.Gathered.put_row_again.Goals as goal

pub returns-clause-again : goal.returns-clause-again
returns-clause-again c told state version some gathers =
    let own : c.in-Some.place.book ≡ c.args.book =
    subst (λ (found : Option RowPlace). IfSome found (λ place. place.book ≡ c.args.book)) c.in-Some.is
    c.in_ok-place.ensures in
    let counted : count_in c.args.self.now.counts c.args.book ≤ c.args.count = omega (
      arith,
      c.if-count-count_in.false,
      c.count_in.ensures,
    ) in
    added (row_among c.args.self.now.rows) (row_among c.restamp.new.rows) c.args.self.now.counts c.insert.new.self
    c.args.book c.args.count c.args.stamp c.in-Some.place c.args.bytes.now own
    (held c.args.book c.args.count (Fits-lt-pow c.ranges.book) (Fits-lt-pow c.ranges.count)) c.requires
    (c.in_ok-restamp.ensures.restamped c.if-not-branch.false) c.in_ok-_count.ensures.updates
    c.args.self.now.lists state version some gathers counted
