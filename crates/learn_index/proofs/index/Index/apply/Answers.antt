use Rattle.std.proofs.Common.{◌≡◌, ◌==◌, ◌+◌, ◌≤◌, ◌∙◌, true, None, Option, Some, List, find, ap, sym, subst, arith}
use Rattle.skk_calls.specs.KeyLaws.{same_key_equal}
use Rattle.skk_calls.specs.Rows.{Row, RowKey}
use Rattle.skk_calls.specs.States.{is_valid, state_with}
use Rattle.learn_index.specs.declared.plan.Plan.TheVariants.{Move}
use Rattle.learn_index.specs.Index.{Index, Spare, changes_of, spare_of}
use Rattle.learn_index.specs.Plans.{IsMade, IsPlanned}
use Rattle.learn_index.proofs.Planned.{list_is, made_has_key, made_valid, move_is, some_count}
use Rattle.learn_index.proofs.index.Index.apply.Goals as goal
use Rattle.learn_index.proofs.index.Index.apply.Goals.{In-Move, in-Some, in-None}

-- the plan was made for a call
made : (c : In-Move)
    → IsMade c.args.self.now.state (Move c.in-Move.book c.in-Move.count c.in-Move.key c.in-Move.row c.in-Move.reply)
made c = subst (IsMade c.args.self.now.state) c.in-Move.is c.requires.made

-- what it leaves is valid
leaves_valid : (c : In-Move)
    → is_valid (state_with c.args.self.now.state c.in-Move.book c.in-Move.count c.in-Move.key c.in-Move.row) ≡ true
leaves_valid c =
    let before = ap (λ (index : Index). is_valid index.state) (sym c.self.view_is) ∙ c.self.invariant.valid in
    made_valid c.args.self.now.state c.in-Move.book c.in-Move.count c.in-Move.key c.in-Move.row c.in-Move.reply (made c)
    before c.changes_keep_states_valid.ensures

-- a row that it leaves has its key
same_row : (c : In-Move) (row : Row) → c.in-Move.row ≡ Some row
    → state_with c.args.self.now.state c.in-Move.book c.in-Move.count row.key (Some row)
    ≡ state_with c.args.self.now.state c.in-Move.book c.in-Move.count c.in-Move.key c.in-Move.row
same_row c row e =
    let moved = subst (λ (r : Option Row). IsMade c.args.self.now.state
    (Move c.in-Move.book c.in-Move.count c.in-Move.key r c.in-Move.reply)) e (made c) in
    let key = same_key_equal row.key c.in-Move.key (made_has_key c.args.self.now.state c.in-Move.book c.in-Move.count
    c.in-Move.key (Some row) c.in-Move.reply moved) in
    ap (λ (k : RowKey). state_with c.args.self.now.state c.in-Move.book c.in-Move.count k (Some row)) key
    ∙ ap (state_with c.args.self.now.state c.in-Move.book c.in-Move.count c.in-Move.key) (sym e)

pub set_row-requires-clause-valid : goal.set_row-requires-clause-valid
set_row-requires-clause-valid c =
    let at = (goal.at.set_row-requires-clause-valid c).In-Move in
    ap is_valid (same_row at c.in-Some.row c.in-Some.is) ∙ leaves_valid at

pub set_row-requires-clause-count : goal.set_row-requires-clause-count
set_row-requires-clause-count c =
    some_count c.args.self.now.state c.in-Move.book c.in-Move.count c.in-Some.row.key (Some c.in-Some.row)
    (set_row-requires-clause-valid c)

pub remove_row-requires-clause-valid : goal.remove_row-requires-clause-valid
remove_row-requires-clause-valid c =
    ap (λ row. is_valid (state_with c.args.self.now.state c.in-Move.book c.in-Move.count c.in-Move.key row))
    (sym c.in-None.is)
    ∙ leaves_valid (goal.at.remove_row-requires-clause-valid c).In-Move

pub remove_row-requires-clause-count : goal.remove_row-requires-clause-count
remove_row-requires-clause-count c =
    some_count c.args.self.now.state c.in-Move.book c.in-Move.count c.in-Move.key None
    (remove_row-requires-clause-valid c)

pub returns-after-row-clause-state : goal.returns-after-row-clause-state
returns-after-row-clause-state c call typed planned =
    let at = (goal.at.returns-after-row-clause-state c).In-Move in
    let state = c.args.self.now.state in
    let moved = subst (IsPlanned state call) c.in-Move.is planned in
    let left =
    sym (move_is state call c.in-Move.book c.in-Move.count c.in-Move.key c.in-Move.row c.in-Move.reply typed moved) in
    elim c.match-row.branch [
      | in-Some w ↦ ap (λ (index : Index). index.state) w.self-is ∙ w.set_row.ensures.state
          ∙ same_row at w.in-Some.row w.in-Some.is ∙ left
      | in-None w ↦
          ap (λ (index : Index). index.state) w.self-is ∙ w.remove_row.ensures.state
          ∙ ap (state_with state c.in-Move.book c.in-Move.count c.in-Move.key) (sym w.in-None.is) ∙ left
    ]

pub returns-in-Lists-clause-state : goal.returns-in-Lists-clause-state
returns-in-Lists-clause-state c call typed planned =
    c.put_list.ensures.state
    ∙ sym (list_is c.args.self.now.state call c.in-Lists.who c.in-Lists.list c.in-Lists.reply
    (subst (IsPlanned c.args.self.now.state call) c.in-Lists.is planned))

pub returns-after-row-clause-spare : goal.returns-after-row-clause-spare
returns-after-row-clause-spare c number =
    let before = c.args.self.now in
    elim c.match-row.branch [
      | in-Some w ↦
          subst (λ (index : Index). spare_of before number ≤ spare_of index number + 1) (sym w.self-is)
          (w.set_row.ensures.spare number)
      | in-None w ↦
          subst (λ (index : Index). spare_of before number ≤ spare_of index number + 1) (sym w.self-is)
          (w.remove_row.ensures.spare number)
    ]

pub returns-in-Lists-clause-spare : goal.returns-in-Lists-clause-spare
returns-in-Lists-clause-spare c number =
    omega (
      arith,
      ap (λ (spares : List Spare). changes_of (find (λ (spare : Spare). spare.number == number) spares))
          c.put_list.ensures.spare,
    )
