use Rattle.learned_store.proofs.Gathering.{IsCounted, count_next}
use Rattle.std.proofs.Common.{subst, sym}
use Rattle.skk_calls.specs.States.{State}
use Rattle.learned_store.proofs.gathered.give_counts.Goals as goal

pub loop-book-preserved : goal.loop-book-preserved
loop-book-preserved c =
    subst (λ (now : State). IsCounted c.args.counts c.pop_first.new.self c.args.index.now.state now)
    (sym c.in_ok-set_count.ensures.ok)
    (count_next c.args.counts c.loop-book.counts c.pop_first.new.self c.args.index.now.state c.loop-book.index.state
    c.loop-book.invariant c.in-Some.book c.in-Some.count c.in-Some.ensures.value c.in-Some.ensures.updates)
