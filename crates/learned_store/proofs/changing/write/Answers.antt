use Rattle.std.proofs.Common.{◌≡◌, ℕ, ◌+◌, ◌≤◌, ◌∙◌, inl, inr, arith}
use Rattle.std.proofs.Common.{⊎_elim, List, [], ◌∷◌, ◌++◌, ap, subst, sym}
use Rattle.std.specs.Prelude.{Option}
use Rattle.std.proofs.lemmas.Result.{on_ok_weaker, on_err_weaker}
use Rattle.skk_calls.specs.declared.answer.Answer.TheVariants.{Refused}
use Rattle.skk_calls.specs.declared.answer.Refusal.TheVariants as refusals
use Rattle.skk_calls.specs.declared.call.Call.{Call}
use Rattle.skk_calls.specs.Dictionary.{after}
use Rattle.skk_calls.specs.Histories.{tight}
use Rattle.skk_calls.specs.States.{State}
use Rattle.skk_journal.specs.Images.{Each}
use Rattle.skk_journal.specs.Records.{need}
use Rattle.learned_store.specs.declared.room.Room.{Room}
use Rattle.learned_store.specs.declared.writing.Record.{Record}
use Rattle.learned_store.specs.Payloads.{newest_version}
use Rattle.learned_store.specs.Rooms.{IsRoom, goes_behind}
use Rattle.learned_store.specs.Stores.{Adds, Keeps, RecoversOneOf, with_doubt}
use Rattle.learned_store.specs.Written.{Told}
use Rattle.learned_store.proofs.Compactions.{compacted_bytes, kept_compaction}
use Rattle.learned_store.specs.DoubtLaws.{on_ok_both, on_err_both, unless_disk, doubt_more, doubt_stays}
use Rattle.learned_store.proofs.Serving.{changed, failed, full, quiet, may_be_refused, known_behind, fits_behind}
use Rattle.learned_store.proofs.Serving.{end_behind, end_compacted, version_behind, version_compacted, known_newest}
use Rattle.learned_store.proofs.changing.write.Goals as goal

-- a record with its payload as it is borrowed
module _ (written : Record) (borrowed : List ℕ) (same : borrowed ≡ written.payload) where
  abbrev lent : Record
  lent = record written { payload = borrowed }

  still_told : (state : State) (call : Call) → Told state call written → Told state call lent
  still_told state call told =
      subst (λ (bytes : List ℕ). Told state call (record written { payload = bytes })) (sym same) told

  still_room : (state : State) (limit version end : ℕ) (room there : Room) → room ≡ there
      → IsRoom state (goes_behind limit version end written.version (need written.payload)) limit
      (need written.payload) room
      → IsRoom state (goes_behind limit version end written.version (need borrowed)) limit (need borrowed) there
  still_room state limit version end room there is found =
      subst (λ (bytes : List ℕ). IsRoom state (goes_behind limit version end written.version (need bytes)) limit
      (need bytes) there) (sym same)
      (subst (IsRoom state (goes_behind limit version end written.version (need written.payload)) limit
      (need written.payload)) is found)

-- it fits behind the records of the live file

pub commit-requires-clause-room : goal.commit-requires-clause-room
commit-requires-clause-room g c =
    let old = c.args.journal.now in
    let payload = c.as_slice-payload.result.now in
    fits_behind c.args.limit old.live.version old.end c.args.change.now.version (need payload)
    (still_room c.args.change.now payload c.as_slice-payload.ensures c.args.index.now.state c.args.limit
    old.live.version old.end _ _ c.in-Ok-Behind.field-0-is c.in-Ok-Behind.ensures)

pub returns-in-Ok-Behind-clause-serves : goal.returns-in-Ok-Behind-clause-serves
returns-in-Ok-Behind-clause-serves g c files call changes told =
    let D = g.D.Disk in
    let state = c.args.index.now.state in
    let old = c.args.journal.now in
    let limit = c.args.limit in
    let payload = c.as_slice-payload.result.now in
    let written : Record = record c.args.change.now { payload = payload } in
    let tells = still_told c.args.change.now payload c.as_slice-payload.ensures state call told in
    let done = c.commit.result in
    let new = c.commit.new.journal in
    let does = c.commit.ensures in
    let room = still_room c.args.change.now payload c.as_slice-payload.ensures state limit old.live.version old.end
    _ _ c.in-Ok-Behind.field-0-is c.in-Ok-Behind.ensures in
    let known = known_behind limit old.live.version old.end written.version (need payload) room in
    let ends : old.end + need payload ≤ limit =
    fits_behind limit old.live.version old.end written.version (need payload) room in
    let fits : tight state + need payload ≤ limit = omega (arith, ends, c.requires.tight) in
    let images = does.images state (after state call) in
    unless_disk _ _ done c.unless_disk.result c.unless_disk.ensures
    (on_ok_weaker done (λ both. changed D old new state files limit call written changes tells does.advances
    old.live.version known images fits
    (end_behind D old new state files limit call written changes tells does.advances room both.0)
    (version_behind D old new state files limit call written changes tells does.advances
    room does.version) (both.1 state (after state call))) (on_ok_both _ _ done does.end does.ok))
    (on_err_weaker done (λ both. failed D old new state files limit call written changes tells does.advances
    old.live.version known images (inr fits) both.0 (both.1 state (after state call)))
    (on_err_both _ _ done does.failed does.err))

-- it fits behind the records of a compaction

pub commit_compacted-requires-clause-room : goal.commit_compacted-requires-clause-room
commit_compacted-requires-clause-room g c =
    let state = c.args.index.now.state in
    let old = c.args.journal.now in
    let room = still_room c.args.change.now c.as_slice-payload.result.now c.as_slice-payload.ensures state c.args.limit
    old.live.version old.end _ _ c.in-Ok-Compacted.field-0-is c.in-Ok-Compacted.ensures in
    omega (arith, compacted_bytes state c.as_slice.result.now (c.as_slice.ensures ∙ room.2), room.1)

pub returns-in-Ok-Compacted-clause-serves : goal.returns-in-Ok-Compacted-clause-serves
returns-in-Ok-Compacted-clause-serves g c files call changes told =
    let D = g.D.Disk in
    let state = c.args.index.now.state in
    let old = c.args.journal.now in
    let limit = c.args.limit in
    let payload = c.as_slice-payload.result.now in
    let written : Record = record c.args.change.now { payload = payload } in
    let tells = still_told c.args.change.now payload c.as_slice-payload.ensures state call told in
    let records = c.as_slice.result.now in
    let done = c.commit_compacted.result in
    let new = c.commit_compacted.new.journal in
    let does = c.commit_compacted.ensures in
    let room = still_room c.args.change.now payload c.as_slice-payload.ensures state limit old.live.version old.end
    _ _ c.in-Ok-Compacted.field-0-is c.in-Ok-Compacted.ensures in
    let is = c.as_slice.ensures ∙ room.2 in
    let known = known_newest state call written tells in
    let compacts = kept_compaction state records is D old in
    let images : (doubt : Option State) → Adds newest_version payload state (after state call)
    → Keeps D old state doubt
    → Each (D.left_since new.disk (D.time old.disk))
    (RecoversOneOf (with_doubt state doubt ++ after state call ∷ [])) =
    λ doubt adds keeps. does.images state (after state call) doubt adds (compacts doubt keeps) keeps in
    unless_disk _ _ done c.unless_disk-in-Ok-Compacted.result c.unless_disk-in-Ok-Compacted.ensures
    (on_ok_weaker done (λ all. changed D old new state files limit call written changes tells does.advances
    newest_version known images room.1
    (end_compacted D old new state files limit call written changes tells does.advances room.0
    (omega (arith, all.0, compacted_bytes state records is)))
    (version_compacted D old new state files limit call written changes tells does.advances room.0 all.1.0)
    (λ doubt adds keeps. all.1.1 state (after state call) doubt adds (compacts doubt keeps) keeps))
    (on_ok_both _ _ done does.end (on_ok_both _ _ done does.version does.ok)))
    (on_err_weaker done (λ both. failed D old new state files limit call written changes tells does.advances
    newest_version known images (inr room.1) both.0
    (λ doubt adds keeps. both.1 state (after state call) doubt adds (compacts doubt keeps) keeps))
    (on_err_both _ _ done does.failed does.err))

pub returns-in-Ok-Compacted-clause-tight : goal.returns-in-Ok-Compacted-clause-tight
returns-in-Ok-Compacted-clause-tight g c =
    let state = c.args.index.now.state in
    let old = c.args.journal.now in
    let done = c.commit_compacted.result in
    let does = c.commit_compacted.ensures in
    let same = ap need c.as_slice-payload.ensures in
    let room = still_room c.args.change.now c.as_slice-payload.result.now c.as_slice-payload.ensures state c.args.limit
    old.live.version old.end _ _ c.in-Ok-Compacted.field-0-is c.in-Ok-Compacted.ensures in
    let bytes = compacted_bytes state c.as_slice.result.now (c.as_slice.ensures ∙ room.2) in
    unless_disk _ _ done c.unless_disk-in-Ok-Compacted.result c.unless_disk-in-Ok-Compacted.ensures
    (on_ok_weaker done (λ is. omega (arith, is, bytes, same)) does.end)
    (on_err_weaker done
    (λ left. ⊎_elim (λ same. omega (arith, same, c.requires.tight)) (λ is. omega (arith, is, bytes)) left)
    does.end_left)

-- it fits nowhere

pub returns-in-Ok-clause-serves : goal.returns-in-Ok-clause-serves
returns-in-Ok-clause-serves g c files call changes told =
    let D = g.D.Disk in
    let state = c.args.index.now.state in
    let old = c.args.journal.now in
    let new = c.settle.new.journal in
    let does = c.settle.ensures in
    let payload = c.as_slice-payload.result.now in
    let written : Record = record c.args.change.now { payload = payload } in
    let tells = still_told c.args.change.now payload c.as_slice-payload.ensures state call told in
    let room = still_room c.args.change.now payload c.as_slice-payload.ensures state c.args.limit old.live.version
    old.end _ _ c.in-Ok-Full.field-0-is c.in-Ok-Full.ensures in
    full D old new state files c.args.limit call written changes tells does.advances c.in-Ok-Full.end
    c.record_need-need.result room.1 c.record_need-need.ensures room.2 (does.images state) (c.in-Ok.ensures.keeps state)

pub returns-in-Err-settle-clause-serves : goal.returns-in-Err-settle-clause-serves
returns-in-Err-settle-clause-serves g c files call changes told =
    let D = g.D.Disk in
    let state = c.args.index.now.state in
    let now = after state call in
    let old = c.args.journal.now in
    let new = c.settle.new.journal in
    let does = c.settle.ensures in
    failed D old new state files c.args.limit call c.args.change.now changes told does.advances newest_version
    (known_newest state call c.args.change.now told)
    (λ doubt adds keeps image left. doubt_more state now doubt image (does.images state doubt keeps image left))
    (inl c.in-Err-settle.ensures.stands) c.in-Err-settle.ensures.failed
    (λ doubt adds keeps. doubt_stays D new state now doubt (c.in-Err-settle.ensures.keeps state doubt keeps))

-- memory was out before that was known
pub returns-in-Err-clause-serves : goal.returns-in-Err-clause-serves
returns-in-Err-clause-serves g c files call changes told =
    let D = g.D.Disk in
    quiet D
    (record { journal = c.args.journal.now; state = c.args.index.now.state; files = files; limit = c.args.limit }) call
    (Refused refusals.Memory) tt (may_be_refused call refusals.Memory changes) tt
