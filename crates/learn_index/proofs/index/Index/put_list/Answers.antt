use Rattle.std.proofs.Common.{◌∙◌, ap, arith}
use Rattle.skk_calls.specs.States.{state_listed}
use Rattle.learn_index.specs.Index.{Index}
use Rattle.learn_index.specs.Kept.{changed, kept}
use Rattle.learn_index.proofs.Lists.{kept_listed, lists_in_order}
use Rattle.learn_index.proofs.index.Index.put_list.Goals as goal

pub put_list-requires-clause-ascend : goal.put_list-requires-clause-ascend
put_list-requires-clause-ascend c =
    lists_in_order c.self.inside.books.items c.self.inside.lists.items c.self.inside.rows c.self.invariant

pub put_list-requires-clause-room : goal.put_list-requires-clause-room
put_list-requires-clause-room c =
    omega (arith, ap (λ (index : Index). index.spare_lists) c.self.view_is, c.requires)

pub invariant_of-self : goal.invariant_of-self
invariant_of-self c =
    kept_listed c.self.inside.books.items c.self.inside.lists.items c.self.inside.rows c.self.invariant c.args.who
    c.args.list c.put_list.new.lists.items c.len-count.ensures.valid c.put_list.ensures

pub returns-clause-state : goal.returns-clause-state
returns-clause-state c =
    ap (λ lists. changed (kept c.self.inside.books.items lists)) c.put_list.ensures
    ∙ ap (λ (index : Index). state_listed index.state c.args.who c.args.list) c.self.view_is
