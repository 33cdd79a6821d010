use Rattle.std.proofs.Common.{◌≡◌, Result, Ok, Err, MatchResult, IfOk, sym, ◌∙◌, subst}
use Rattle.std.specs.Prelude.{◌≢◌}
use Rattle.skk_disk.specs.Image.{Image}
use Rattle.skk_disk.specs.MomentLaws.{each_within}
use Rattle.skk_disk.specs.StepLaws.{no_step, within, at_end}
use Rattle.skk_journal.specs.declared.choice.LiveChoice.TheVariants.{NoLive, LiveIn}
use Rattle.skk_journal.specs.declared.fault.OpenFault.{OpenFault}
use Rattle.skk_journal.specs.declared.fault.OpenFault.TheVariants.{Disk, NotJournal, BadRecord, Memory}
use Rattle.skk_journal.specs.Causes.{UnlessDisk}
use Rattle.skk_journal.specs.Choice.{choice}
use Rattle.skk_journal.specs.Images.{Opens, StillOpens, Anyhow}
use Rattle.skk_journal.proofs.Opened.{still_opens}
use Rattle.skk_journal.proofs.opening.open_files.Goals as goal

pub returns-in_err-sync_both-clause-images : goal.returns-in_err-sync_both-clause-images
returns-in_err-sync_both-clause-images g c contents start same opens image left =
    subst (StillOpens c.args.newest start contents) (sym (same image (c.sync_both.ensures.images image left)))
    (still_opens c.args.newest start contents opens)

pub returns-in_err-sync_both-clause-first_alone : goal.returns-in_err-sync_both-clause-first_alone
returns-in_err-sync_both-clause-first_alone g c = no_step _ Anyhow _ _ (λ bytes. tt) c.sync_both.ensures.images

pub returns-clause-images : goal.returns-clause-images
returns-clause-images g c contents start same opens =
    let D = g.D.Disk in
    let laws = g.met.D.Disk in
    let newest = c.args.newest in
    let old = c.args.disk.now in
    let mid = c.sync_both.new.disk in
    let end = c.open_synced.new.disk in
    each_within _ _ _ _ _ _ c.sync_both.ensures.advances.past c.open_synced.ensures.advances.past
    (StillOpens newest start contents)
    (λ image left. subst (StillOpens newest start contents) (sym (same image (c.sync_both.ensures.images image left)))
    (still_opens newest start contents opens))
    (λ image left.
    let told = laws.tells_images end (D.time mid) image left in
    let is = c.in_ok-sync_both.ensures.seen ∙ same (D.seen old) (laws.reads_image old told) in
    subst (λ (s : Image). StillOpens newest s contents image) is
    (c.open_synced.ensures.images contents c.in_ok-sync_both.ensures.durable
    (subst (Opens newest contents) (sym is) opens) image left))

pub returns-clause-kept : goal.returns-clause-kept
returns-clause-kept g c tells some =
    let D = g.D.Disk in
    let laws = g.met.D.Disk in
    let old = c.args.disk.now in
    let mid = c.sync_both.new.disk in
    let still = subst (λ (s : Image). choice c.args.newest s ≢ NoLive) (sym c.in_ok-sync_both.ensures.seen) some in
    each_within _ _ _ _ _ _ c.sync_both.ensures.advances.past c.open_synced.ensures.advances.past
    (D.left_since old (D.time old))
    c.sync_both.ensures.images
    (λ image left. c.sync_both.ensures.images image
    (laws.earlier mid (D.time old) (D.time mid) image c.sync_both.ensures.advances.past.later
    ((c.open_synced.ensures.kept tells still).no_more (D.time mid) image left)))

pub returns-clause-first_alone : goal.returns-clause-first_alone
returns-clause-first_alone g c =
    let mid = c.sync_both.new.disk in
    let one = c.sync_both.ensures in
    let none = no_step _ Anyhow _ _ (λ bytes. tt) one.images in
    within _ _ _ _ _ _ _ one.advances.past c.open_synced.ensures.advances.past Anyhow Anyhow Anyhow Anyhow
    (λ old new way. tt)
    (λ old between new way other. tt) none (at_end _ _ _ _ _ one.advances.past (g.met.D.Disk.earlier mid) Anyhow none)
    c.open_synced.ensures.first_alone

pub returns-clause-live : goal.returns-clause-live
returns-clause-live g c tells some =
    let same = c.in_ok-sync_both.ensures.seen in
    let still = subst (λ (s : Image). choice c.args.newest s ≢ NoLive) (sym same) some in
    subst (λ (s : Image). IfOk c.open_synced.result (λ opened. choice c.args.newest s ≡ LiveIn opened.live)) same
    (c.open_synced.ensures.live tells still)

-- what holds in each case holds unless the disk failed
in_each : {T : Type 0} (P : Type 0) (r : Result T OpenFault) → P
    → MatchResult r (λ _. P) (λ why. UnlessDisk why P)
in_each P (Ok opened) p = p
in_each P (Err Disk) p = tt
in_each P (Err (NotJournal file first)) p = p
in_each P (Err (BadRecord file at version before)) p = p
in_each P (Err Memory) p = p

pub returns-clause-seen : goal.returns-clause-seen
returns-clause-seen g c tells some =
    let same = c.in_ok-sync_both.ensures.seen in
    let still = subst (λ (s : Image). choice c.args.newest s ≢ NoLive) (sym same) some in
    in_each _ c.open_synced.result (c.open_synced.ensures.seen tells still ∙ same)
