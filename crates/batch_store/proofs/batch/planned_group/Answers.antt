use Rattle.std.proofs.Common.{ℕ, List, [], ◌∷◌, ◌++◌, drop, subst, sym}
use Rattle.std.specs.List.{All}
use Rattle.skk_journal.specs.Records.{framed}
use Rattle.learn_index.specs.declared.plan.Plan.{Plan}
use Rattle.learn_index.specs.Groups.{book_of_group}
use Rattle.batch_store.specs.Batches.{IsPieceOf}
use Rattle.batch_store.specs.Groups.{PutsCharacters, PutsGood, PutsHeld, put_payloads}
use Rattle.batch_store.proofs.GroupTold.{Laws, all_good, group_piece}
use Rattle.batch_store.proofs.batch.planned_group.Goals as goal

-- the plans put good rows
pub group_records-requires : goal.group_records-requires
group_records-requires c =
    let laws : Laws = record {
      plans = c.plans_tell_what_their_changes_tell.ensures;
      puts = c.changes_tell_what_may_be_written.ensures.put;
      counts = c.changes_tell_what_may_be_written.ensures.count;
      needs = c.changes_need_their_records.ensures;
      leaves = c.records_leave_what_changes_leave.ensures;
      sized = c.sound_records_fit.ensures;
      valid = c.changes_keep_states_valid.ensures;
    } in
    let calls = c.args.calls.now in
    subst (λ (plans : List Plan). All PutsGood plans) (sym c.as_slice.ensures)
    (all_good laws c.args.index.now.state (book_of_group calls) calls c.in_ok-group.group.plans
    c.count-valid.ensures.valid c.requires.learn c.in_ok-group.ensures.valid c.in_ok-group.ensures.planned)

-- and what is written of them is a piece of the group
pub returns-clause-piece : goal.returns-clause-piece
returns-clause-piece c =
    let laws : Laws = record {
      plans = c.plans_tell_what_their_changes_tell.ensures;
      puts = c.changes_tell_what_may_be_written.ensures.put;
      counts = c.changes_tell_what_may_be_written.ensures.count;
      needs = c.changes_need_their_records.ensures;
      leaves = c.records_leave_what_changes_leave.ensures;
      sized = c.sound_records_fit.ensures;
      valid = c.changes_keep_states_valid.ensures;
    } in
    let calls = c.args.calls.now in
    let state = c.args.index.now.state in
    let made = c.in_ok-written.ensures in
    subst (λ (bytes : List ℕ). IsPieceOf state calls (drop 1 bytes)) (sym made.records)
    (subst (λ (plans : List Plan). IsPieceOf state calls (drop 1 (framed (put_payloads plans) ++ 0 ∷ [])))
    (sym c.as_slice.ensures)
    (group_piece laws state (book_of_group calls) calls c.in_ok-group.group.plans c.count-valid.ensures.valid
    c.requires.learn c.in_ok-group.ensures.valid c.in_ok-group.ensures.planned
    (subst (λ (plans : List Plan). All PutsCharacters plans) c.as_slice.ensures made.characters)
    (subst (λ (plans : List Plan). All PutsHeld plans) c.as_slice.ensures made.held)))
