use Rattle.std.proofs.Common.{◌≡◌, ◌≤◌, ap, subst, sym, Err, Ok}
use Rattle.skk_calls.specs.Histories.{tight}
use Rattle.skk_calls.specs.States.{State}
use Rattle.learn_index.specs.Groups.{ArePlanned, IsGroup, book_of_group}
use Rattle.learned_store.specs.Stands.{NotedStore}
use Rattle.learned_store.specs.Stores.{OpenStore}
use Rattle.batch_store.specs.Entries.{store_of}
use Rattle.batch_store.proofs.EnteredLaws.{entered_behind, fault_answered_at, noted_at, served_answered_at}
use Rattle.batch_store.proofs.GroupLaws.{group_failed}
use Rattle.batch_store.proofs.WrittenGroups.{behind_first, committed, moved_store, no_questions, piece_at, piece_tight}
use Rattle.batch_store.proofs.WrittenGroups.{planned_length, quiet_at, replies_length, uncommitted}
use Rattle.batch_store.proofs.batch.Batch.commit.Goals as goal

-- memory was out

pub returns-in_err-group-clause-commits : goal.returns-in_err-group-clause-commits
returns-in_err-group-clause-commits g c =
    let parts = c.self.inside.parts in
    let view = ap (λ (s : NotedStore g.row.D.Denot). s.store) c.self.view_is in
    moved_store g.D.Disk _ _ _ _ _ view
    (quiet_at g.D.Disk parts.journal parts.index.state c.planned_group.new.index.state parts.system parts.limit
    c.args.calls.now c.from_residual.result c.in_err-group.ensures.state c.from_residual.ensures.1
    (c.kept_states_are_recovered.ensures parts.journal parts.index.state))

-- the records were not written

pub enter_fault-requires : goal.enter_fault-requires
enter_fault-requires g c =
    cc (
      c.as_slice-in-Err.ensures,
      c.as_slice-plans.ensures,
      planned_length c.self.inside.parts.index.state c.args.calls.now c.in_ok-group.field-0.group.plans
          c.in_ok-group.ensures.planned,
    )

pub invariant_of-self-in-Err : goal.invariant_of-self-in-Err
invariant_of-self-in-Err g c =
    let parts = c.self.inside.parts in
    let store = store_of parts in
    let calls = c.args.calls.now in
    let plans = c.in_ok-group.field-0.group.plans in
    let group = c.in_ok-group.ensures in
    let fault = c.in-Err.fault in
    let view : store ≡ c.args.self.now.store = ap (λ (s : NotedStore g.row.D.Denot). s.store) c.self.view_is in
    let is_group = subst (λ (s : OpenStore g.row.D.Denot). IsGroup s.state calls) (sym view) c.requires in
    let answered = fault_answered_at store calls _ plans _ fault c.as_slice-in-Err.ensures c.as_slice-plans.ensures
    (group_failed parts.system parts.index.state calls plans is_group group.planned) in
    let piece = piece_at calls parts.index.state c.planned_group.new.index.state _ _ group.state
    (behind_first c.as_slice.result.now _ c.as_slice.ensures) group.piece in
    let commits = uncommitted g.D.Disk parts.journal c.write_piece.new.journal parts.system parts.limit calls
    parts.index.state c.planned_group.new.index.state group.state fault
    (c.in-Err.ensures.commits parts.system calls piece) in (
      c.in-Err.ensures.tight,
      entered_behind g.D.Disk c.counting_comes_to_the_tally.ensures.more c.self.inside.entries.trace
          c.self.inside.entries.tally store _ c.self.invariant.1 calls _ (Err fault) _
          c.enter_fault.new.entries.trace c.enter_fault.new.entries.tally commits c.as_slice-in-Err.ensures answered
          c.enter_fault.ensures.notes c.enter_fault.ensures.tally,
    )

pub returns-in-Err-clause-commits : goal.returns-in-Err-clause-commits
returns-in-Err-clause-commits g c =
    let parts = c.self.inside.parts in
    let calls = c.args.calls.now in
    let group = c.in_ok-group.ensures in
    let view = ap (λ (s : NotedStore g.row.D.Denot). s.store) c.self.view_is in
    let piece = piece_at calls parts.index.state c.planned_group.new.index.state _ _ group.state
    (behind_first c.as_slice.result.now _ c.as_slice.ensures) group.piece in
    moved_store g.D.Disk _ _ _ _ _ view
    (uncommitted g.D.Disk parts.journal c.write_piece.new.journal parts.system parts.limit calls
    parts.index.state c.planned_group.new.index.state group.state c.in-Err.fault
    (c.in-Err.ensures.commits parts.system calls piece))

pub returns-in-Err-clause-notes : goal.returns-in-Err-clause-notes
returns-in-Err-clause-notes g c =
    let parts = c.self.inside.parts in
    let store = store_of parts in
    let calls = c.args.calls.now in
    let plans = c.in_ok-group.field-0.group.plans in
    let view : store ≡ c.args.self.now.store = ap (λ (s : NotedStore g.row.D.Denot). s.store) c.self.view_is in
    let noted : c.self.inside.entries.trace ≡ c.args.self.now.notes =
    ap (λ (s : NotedStore g.row.D.Denot). s.notes) c.self.view_is in
    let is_group = subst (λ (s : OpenStore g.row.D.Denot). IsGroup s.state calls) (sym view) c.requires in
    let answered = fault_answered_at store calls _ plans _ c.in-Err.fault c.as_slice-in-Err.ensures
    c.as_slice-plans.ensures
    (group_failed parts.system parts.index.state calls plans is_group c.in_ok-group.ensures.planned) in
    noted_at g.row.D.Denot store c.args.self.now.store c.self.inside.entries.trace c.args.self.now.notes _ _ _ calls _ _
    (Err c.in-Err.fault) view noted c.as_slice-in-Err.ensures answered c.enter_fault.ensures.notes

-- they were, and the plans applied

pub enter_replies-requires : goal.enter_replies-requires
enter_replies-requires g c =
    let parts = c.self.inside.parts in
    let calls = c.args.calls.now in
    let group = c.in_ok-group.ensures in
    let state = c.planned_group.new.index.state in
    let planned = subst (λ (s : State). ArePlanned s calls c.in_ok-group.field-0.group.plans) (sym group.state)
    group.planned in
    let told = c.apply_group-replies.ensures.replies parts.system calls
    (no_questions (book_of_group calls) calls c.requires.learn) planned in
    cc (c.as_slice-3.ensures, c.as_slice-2.ensures, told, replies_length parts.system state calls)

pub invariant_of-self-2 : goal.invariant_of-self-2
invariant_of-self-2 g c =
    let parts = c.self.inside.parts in
    let calls = c.args.calls.now in
    let group = c.in_ok-group.ensures in
    let state = c.planned_group.new.index.state in
    let piece = piece_at calls parts.index.state state _ _ group.state
    (behind_first c.as_slice.result.now _ c.as_slice.ensures) group.piece in
    let planned = subst (λ (s : State). ArePlanned s calls c.in_ok-group.field-0.group.plans) (sym group.state)
    group.planned in
    let told = c.apply_group-replies.ensures.replies parts.system calls
    (no_questions (book_of_group calls) calls c.requires.learn) planned in
    let leaves = c.apply_group-replies.ensures.state calls group.typed planned in
    let commits = committed g.D.Disk parts.journal c.write_piece.new.journal parts.system parts.limit calls
    parts.index.state state group.state c.apply_group-replies.new.self.state c.apply_group-replies.result leaves told
    (c.in_default.ensures.commits parts.system calls piece) in
    let served = served_answered_at parts.system parts.index.state state calls c.apply_group-replies.result
    c.as_slice-3.result.now group.state c.as_slice-3.ensures told in (
      subst (λ (s : State). tight s ≤ c.write_piece.new.journal.end) (sym leaves)
          (piece_tight c.changes_keep_the_tight_end.ensures state calls _ c.write_piece.new.journal.end piece
          c.in_default.ensures.tight),
      entered_behind g.D.Disk c.counting_comes_to_the_tally.ensures.more c.self.inside.entries.trace
          c.self.inside.entries.tally (store_of parts) _ c.self.invariant.1 calls _ (Ok c.apply_group-replies.result) _
          c.enter_replies.new.self.trace c.enter_replies.new.self.tally commits c.as_slice-2.ensures served
          c.enter_replies.ensures.notes c.enter_replies.ensures.tally,
    )

pub returns-clause-commits : goal.returns-clause-commits
returns-clause-commits g c =
    let parts = c.self.inside.parts in
    let calls = c.args.calls.now in
    let group = c.in_ok-group.ensures in
    let state = c.planned_group.new.index.state in
    let view = ap (λ (s : NotedStore g.row.D.Denot). s.store) c.self.view_is in
    let piece = piece_at calls parts.index.state state _ _ group.state
    (behind_first c.as_slice.result.now _ c.as_slice.ensures) group.piece in
    let planned = subst (λ (s : State). ArePlanned s calls c.in_ok-group.field-0.group.plans) (sym group.state)
    group.planned in
    let told = c.apply_group-replies.ensures.replies parts.system calls
    (no_questions (book_of_group calls) calls c.requires.learn) planned in
    let leaves = c.apply_group-replies.ensures.state calls group.typed planned in
    moved_store g.D.Disk _ _ _ _ _ view
    (committed g.D.Disk parts.journal c.write_piece.new.journal parts.system parts.limit calls parts.index.state state
    group.state c.apply_group-replies.new.self.state c.apply_group-replies.result leaves told
    (c.in_default.ensures.commits parts.system calls piece))

pub returns-clause-notes : goal.returns-clause-notes
returns-clause-notes g c =
    let parts = c.self.inside.parts in
    let calls = c.args.calls.now in
    let group = c.in_ok-group.ensures in
    let view : store_of parts ≡ c.args.self.now.store =
    ap (λ (s : NotedStore g.row.D.Denot). s.store) c.self.view_is in
    let noted : c.self.inside.entries.trace ≡ c.args.self.now.notes =
    ap (λ (s : NotedStore g.row.D.Denot). s.notes) c.self.view_is in
    let planned = subst (λ (s : State). ArePlanned s calls c.in_ok-group.field-0.group.plans) (sym group.state)
    group.planned in
    let told = c.apply_group-replies.ensures.replies parts.system calls
    (no_questions (book_of_group calls) calls c.requires.learn) planned in
    noted_at g.row.D.Denot (store_of parts) c.args.self.now.store c.self.inside.entries.trace c.args.self.now.notes
    _ _ _ calls _ _ (Ok c.apply_group-replies.result) view noted c.as_slice-2.ensures
    (served_answered_at parts.system parts.index.state c.planned_group.new.index.state calls
    c.apply_group-replies.result c.as_slice-3.result.now group.state c.as_slice-3.ensures told)
    c.enter_replies.ensures.notes
