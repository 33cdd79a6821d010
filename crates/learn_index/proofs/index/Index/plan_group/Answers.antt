use Rattle.std.proofs.Common.{◌≡◌, ◌≤◌, ◌∙◌, ℕ, true, length, ap, subst, sym, arith}
use Rattle.std.specs.List.{list_all}
use Rattle.std.proofs.lemmas.Result.{IfOk-weaker}
use Rattle.skk_calls.specs.Dictionary.{is_call}
use Rattle.learn_index.specs.declared.grouping.Group.{Group}
use Rattle.learn_index.specs.Groups.{AreMade, ArePlanned, HaveRoom, book_of_group}
use Rattle.learn_index.specs.Index.{spare_of}
use Rattle.learn_index.proofs.Grouped.{learnings_may, planned_length, room_for_all}
use Rattle.learn_index.proofs.index.Index.plan_group.Goals as goal

pub plan_learnings-requires-clause-learn : goal.plan_learnings-requires-clause-learn
plan_learnings-requires-clause-learn c =
    rw (c.book_of_group-book.ensures, c.as_slice-calls.ensures) c.requires.learn

pub plan_learnings-requires-clause-apart : goal.plan_learnings-requires-clause-apart
plan_learnings-requires-clause-apart c = rw c.as_slice-calls.ensures c.requires.apart

pub returns-clause-planned : goal.returns-clause-planned
returns-clause-planned c =
    let planned =
    rw (c.as_slice-calls.ensures, c.in_ok-make_room.ensures.state) at c.in_ok-plans.ensures.planned in
    IfOk-weaker c.new.result (λ (group : Group). group.plans ≡ c.in_ok-plans.plans)
    (λ (group : Group). ArePlanned c.args.self.now.state c.args.calls.now group.plans)
    (λ (group : Group) e. subst (ArePlanned c.args.self.now.state c.args.calls.now) (sym e) planned) c.new.ensures

pub returns-clause-valid : goal.returns-clause-valid
returns-clause-valid c =
    let valid = rw c.as_slice-calls.ensures at c.in_ok-plans.ensures.valid in
    IfOk-weaker c.new.result (λ (group : Group). group.plans ≡ c.in_ok-plans.plans)
    (λ (group : Group). list_all is_call c.args.calls.now ≡ true) (λ (group : Group) e. valid) c.new.ensures

pub returns-clause-made : goal.returns-clause-made
returns-clause-made c =
    let calls = c.args.calls.now in
    let planned = rw c.as_slice-calls.ensures at c.in_ok-plans.ensures.planned in
    let valid = rw c.as_slice-calls.ensures at c.in_ok-plans.ensures.valid in
    let may = learnings_may (book_of_group calls) calls c.requires.learn valid in
    IfOk-weaker c.new.result (λ (group : Group). group.plans ≡ c.in_ok-plans.plans)
    (λ (group : Group). AreMade c.make_room.new.self.state group.plans)
    (λ (group : Group) e. subst (AreMade c.make_room.new.self.state) (sym e) (calls, may, planned)) c.new.ensures

pub returns-clause-spare : goal.returns-clause-spare
returns-clause-spare c =
    let calls = c.args.calls.now in
    let book = c.book_of_group-book.ensures ∙ ap book_of_group c.as_slice-calls.ensures in
    let room : length calls ≤ spare_of c.make_room.new.self (book_of_group calls) =
    subst (λ (n : ℕ). length calls ≤ spare_of c.make_room.new.self n) book
    (omega (arith, c.in_ok-make_room.ensures.room, ap length c.as_slice-calls.ensures)) in
    IfOk-weaker c.new.result (λ (group : Group). group.plans ≡ c.in_ok-plans.plans)
    (λ (group : Group). length calls ≤ spare_of c.make_room.new.self (book_of_group calls))
    (λ (group : Group) e. room) c.new.ensures

pub returns-clause-room : goal.returns-clause-room
returns-clause-room c =
    let calls = c.args.calls.now in
    let index = c.make_room.new.self in
    let plans = c.in_ok-plans.plans in
    let planned = rw c.as_slice-calls.ensures at c.in_ok-plans.ensures.planned in
    let book = c.book_of_group-book.ensures ∙ ap book_of_group c.as_slice-calls.ensures in
    let room : length calls ≤ spare_of index (book_of_group calls) =
    subst (λ (n : ℕ). length calls ≤ spare_of index n) book
    (omega (arith, c.in_ok-make_room.ensures.room, ap length c.as_slice-calls.ensures)) in
    let all : HaveRoom index plans =
    room_for_all index (length plans) (book_of_group calls)
    (subst (λ (n : ℕ). n ≤ spare_of index (book_of_group calls)) (sym (planned_length index.state calls plans planned))
    room) index.state calls plans c.requires.learn planned in
    IfOk-weaker c.new.result (λ (group : Group). group.plans ≡ plans) (λ (group : Group). HaveRoom index group.plans)
    (λ (group : Group) e. subst (HaveRoom index) (sym e) all) c.new.ensures
