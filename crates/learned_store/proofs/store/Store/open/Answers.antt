use Rattle.std.proofs.Common.{◌≡◌, ℕ, ◌∙◌, List, ap, arith, subst, sym}
use Rattle.skk_journal.specs.Causes.{file_number}
use Rattle.skk_journal.specs.Contents.{Contents}
use Rattle.skk_journal.specs.Found.{payloads}
use Rattle.skk_journal.specs.Opening.{contents_of}
use Rattle.learned_store.specs.KeptLookUps.{AreAnswers}
use Rattle.learned_store.specs.Recovered.{IsRefused, Leave}
use Rattle.learned_store.specs.Recovering.{IsBreak, refusal_of}
use Rattle.learned_store.proofs.KeptAnswers.{none_kept}
use Rattle.learned_store.proofs.Refused.{refused_live, unless_disk}
use Rattle.learned_store.proofs.StillOpened.{still_recovers}
use Rattle.learned_store.proofs.TightEnds.{tight_least}
use Rattle.learned_store.proofs.store.Store.open.Goals as goal

-- what a fact says of records that are read as those of one version, of another that is the same
by_version : {v w : ℕ} (P : Contents → Type 0) (records : List (List ℕ)) → v ≡ w
    → P (record { version = v; records = records }) → P (record { version = w; records = records })
by_version P records same = subst (λ (n : ℕ). P (record { version = n; records = records })) same

-- the live file has at least what its state needs, and nothing is kept
pub invariant_of-result : goal.invariant_of-result
invariant_of-result g c =
    let state = c.in-Ok-recover.index.state in
    let contents = contents_of c.in-Ok-open.journal.live (payloads c.in-Ok-open.records) in
    let leave = by_version (λ (found : Contents). Leave found state) (payloads c.in-Ok-open.records)
    c.version.ensures.live c.in-Ok-recover.ensures.left in
    let least = tight_least contents state leave in (
      omega (arith, least, c.in-Ok-open.ensures.rests.end),
      subst (AreAnswers c.args.system state) (sym c.in-Ok.ensures) (none_kept c.args.system state),
    )

-- the records that were read leave the state, and end where the journal does
pub returns-in-Ok-recover-clause-opened : goal.returns-in-Ok-recover-clause-opened
returns-in-Ok-recover-clause-opened g c = record {
  contents = contents_of c.in-Ok-open.journal.live (payloads c.in-Ok-open.records);
  leave = by_version (λ (found : Contents). Leave found c.in-Ok-recover.index.state) (payloads c.in-Ok-open.records)
      c.version.ensures.live c.in-Ok-recover.ensures.left;
  end_is = c.in-Ok-open.ensures.rests.end;
  told = c.in-Ok-open.ensures.opened;
}

pub returns-in-Ok-recover-clause-keeps : goal.returns-in-Ok-recover-clause-keeps
returns-in-Ok-recover-clause-keeps g c = (
  c.in-Ok-open.ensures.newest,
  contents_of c.in-Ok-open.journal.live (payloads c.in-Ok-open.records),
  by_version (λ (found : Contents). Leave found c.in-Ok-recover.index.state) (payloads c.in-Ok-open.records)
      c.version.ensures.live c.in-Ok-recover.ensures.left,
  c.in-Ok-open.ensures.rests,
)

-- where the images of a moment are opened with records, they are opened as the state that these leave
pub returns-in-Ok-recover-clause-images : goal.returns-in-Ok-recover-clause-images
returns-in-Ok-recover-clause-images g c = λ state start same was image left.
    still_recovers start was.0 state image was.1 was.2
    (c.in-Ok-open.ensures.images was.0 start same was.1 image left)

pub returns-in-Err-recover-clause-images : goal.returns-in-Err-recover-clause-images
returns-in-Err-recover-clause-images g c = λ state start same was image left.
    let there = rw c.close.ensures at left in
    still_recovers start was.0 state image was.1 was.2
    (c.in-Ok-open.ensures.images was.0 start same was.1 image there)

pub returns-in-Err-clause-images : goal.returns-in-Err-clause-images
returns-in-Err-clause-images g c = λ state start same was image left.
    still_recovers start was.0 state image was.1 was.2
    (c.in-Err.ensures.images was.0 start same was.1 image left)

pub returns-in-Err-clause-refused : goal.returns-in-Err-clause-refused
returns-in-Err-clause-refused g c = λ told.
    c.first_refusal.ensures.refused (g.D.Disk.seen c.args.disk) (c.in-Err.ensures.refused told)

-- a record of the live file says nothing

pub returns-in-Err-recover-clause-refused : goal.returns-in-Err-recover-clause-refused
returns-in-Err-recover-clause-refused g c told =
    let image = g.D.Disk.seen c.args.disk in
    let live = c.in-Ok-open.journal.live in
    let records = payloads c.in-Ok-open.records in
    let fault = c.in-Err-recover.fault in
    let version = c.version-version.result in
    let is : c.refusal.result ≡ refusal_of (file_number live.file) version fault =
    c.refusal.ensures ∙ ap (λ number. refusal_of number version fault) c.file-file.ensures in
    let breaks = by_version (λ (found : Contents). IsBreak found fault) records c.version.ensures.live
    (c.in-Err-recover.ensures.broken c.in-Ok-open.ensures.places) in
    subst (IsRefused image) (sym is)
    (refused_live image live (contents_of live records) version fault (c.in-Ok-open.ensures.live told)
    (c.in-Ok-open.ensures.opened told) breaks)

pub returns-in-Err-recover-clause-kept : goal.returns-in-Err-recover-clause-kept
returns-in-Err-recover-clause-kept g c told live image left =
    c.in-Ok-open.ensures.kept told live image (rw c.close.ensures at left)

-- the journal refuses both files
pub returns-in-Err-clause-seen : goal.returns-in-Err-clause-seen
returns-in-Err-clause-seen g c told live =
    unless_disk _ c.in-Err.field-0.why c.first_refusal.result c.first_refusal.ensures.disk.1
    (c.in-Err.ensures.seen told live)
