use Rattle.std.proofs.Common.{◌≡◌, ◌∙◌, List, [], ◌∷◌, ap, arith, length, subst, sym}
use Rattle.std.specs.Vec.Iter.{into_iter_items}
use Rattle.std.proofs.lemmas.List.{nil_from_length}
use Rattle.skk_calls.specs.declared.answer.Reply.{Reply}
use Rattle.learn_index.specs.declared.plan.Plan.{Plan}
use Rattle.learn_index.proofs.Grouped.{AreLeft, all_left, next_left, next_made, next_room, none_left, replies_are}
use Rattle.learn_index.proofs.Grouped.{states_are}
use Rattle.learn_index.proofs.index.Index.apply_group.Goals as goal
use Rattle.learn_index.proofs.index.Index.apply_group.Goals.{In-Some, In-None}

-- the next plan and those behind it are left
left : (c : In-Some) → AreLeft c.args.self.now.state c.args.group.plans c.loop-plan.self
    (c.in-Some.plan ∷ into_iter_items c.next.new.self) c.loop-plan.replies.items
left c =
    subst (λ (rest : List Plan). AreLeft c.args.self.now.state c.args.group.plans c.loop-plan.self rest
    c.loop-plan.replies.items) c.in-Some.ensures.steps.0 c.loop-plan.invariant.left

-- no plan is left at the end
none : (c : In-None) → length (into_iter_items c.loop-plan.plan-iterator) ≡ 0
none c = sym c.loop-plan.plan-iterator.rest.ok.0 ∙ c.in-None.ensures.steps.0

pub loop-plan-init : goal.loop-plan-init
loop-plan-init c =
    let group = c.args.group in
    let all : into_iter_items c.into_iter-plan-iterator.result ≡ group.plans =
    c.into_iter-plan-iterator.ensures.into_iter_gives.0 ∙ c.into_vec-plan-items.ensures in
    let empty = nil_from_length group.replies.items (sym group.replies.ok.0 ∙ group.none) in
    record {
      left =
          subst (λ (rest : List Plan). AreLeft c.args.self.now.state group.plans c.args.self.now rest
          group.replies.items) (sym all)
          (all_left c.args.self.now group.plans group.replies.items c.requires.made c.requires.room empty);
      room = omega (arith, ap length all, group.none, group.room);
    }

pub apply-requires-clause-made : goal.apply-requires-clause-made
apply-requires-clause-made c =
    next_made c.args.self.now.state c.args.group.plans c.loop-plan.self c.in-Some.plan (into_iter_items c.next.new.self)
    c.loop-plan.replies.items (left (goal.at.apply-requires-clause-made c).In-Some)

pub apply-requires-clause-room : goal.apply-requires-clause-room
apply-requires-clause-room c =
    next_room c.args.self.now.state c.args.group.plans c.loop-plan.self c.in-Some.plan (into_iter_items c.next.new.self)
    c.loop-plan.replies.items (left (goal.at.apply-requires-clause-room c).In-Some)

pub push_reserved-requires : goal.push_reserved-requires
push_reserved-requires c = omega (arith, c.loop-plan.invariant.room, ap length c.in-Some.ensures.steps.0)

pub loop-plan-preserved : goal.loop-plan-preserved
loop-plan-preserved c =
    let plan = c.in-Some.plan in
    let rest = into_iter_items c.next.new.self in
    let before = c.args.self.now.state in
    let plans = c.args.group.plans in
    let index = c.loop-plan.self in
    let replies = c.loop-plan.replies.items in
    let all = left (goal.at.loop-plan-preserved c).In-Some in
    let made = next_made before plans index plan rest replies all in
    record {
      left =
          subst (λ (those : List Reply). AreLeft before plans c.apply.new.self rest those)
          (sym c.push_reserved.ensures.items)
          (next_left before plans index plan rest replies all c.apply.new.self c.apply.ensures.state
          c.apply.ensures.spare c.apply.result (c.apply.ensures.reply [] made.0 made.3 made.4));
      room = omega (
        arith,
        c.loop-plan.invariant.room,
        ap length c.in-Some.ensures.steps.0,
        c.push_reserved.ensures.len,
        c.push_reserved.ensures.capacity,
      );
    }

pub returns-clause-replies : goal.returns-clause-replies
returns-clause-replies c files calls change planned =
    let before = c.args.self.now.state in
    let plans = c.args.group.plans in
    c.of.ensures
    ∙ (none_left before plans c.loop-plan.self (into_iter_items c.loop-plan.plan-iterator)
    c.loop-plan.replies.items (none (goal.at.returns-clause-replies c).In-None) c.loop-plan.invariant.left).1
    ∙ replies_are files before calls plans change planned

pub returns-clause-state : goal.returns-clause-state
returns-clause-state c calls valid planned =
    let before = c.args.self.now.state in
    let plans = c.args.group.plans in
    (none_left before plans c.loop-plan.self (into_iter_items c.loop-plan.plan-iterator)
    c.loop-plan.replies.items (none (goal.at.returns-clause-state c).In-None) c.loop-plan.invariant.left).0
    ∙ states_are before calls plans valid planned
