use Rattle.std.proofs.Common.{◌+◌, ◌≤◌, length, vec_capacity, vec_len}
use Rattle.std.specs.Vec.Iter.{into_iter_items}
use Rattle.learn_index.proofs.Grouped.{AreLeft}
use Rattle.learn_index.proofs.index.Index.apply_group.Given as goal

-- the plans that are left were made on what those in front of them left, and there is room for their replies
abbrev pub invariant-loop-plan : goal.invariant-loop-plan
invariant-loop-plan l = record {
  left : AreLeft l.fn.self.state l.fn.group.plans l.self (into_iter_items l.plan-iterator) l.replies.items;
  room : vec_len l.replies + length (into_iter_items l.plan-iterator) ≤ vec_capacity l.replies;
}
