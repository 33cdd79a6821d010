use Rattle.std.proofs.Common.{subst, sym}
use Rattle.skk_calls.specs.States.{State}
use Rattle.learned_store.proofs.Gathering.{IsListed, list_next, none_listed}
use Rattle.learned_store.proofs.gathered.give_lists.Goals as goal

pub loop-typist-init : goal.loop-typist-init
loop-typist-init c = none_listed c.args.lists c.args.index.now.state c.requires.valid c.requires.none

pub loop-typist-preserved : goal.loop-typist-preserved
loop-typist-preserved c =
    subst (λ (now : State). IsListed c.args.lists c.pop_first.new.self c.args.index.now.state now)
    (sym c.in_ok-set_list.ensures.ok)
    (list_next c.args.lists c.loop-typist.lists c.pop_first.new.self c.args.index.now.state c.loop-typist.index.state
    c.loop-typist.invariant c.in-Some.typist c.in-Some.books c.in-Some.ensures.value c.in-Some.ensures.updates
    c.len-count.ensures.valid)
