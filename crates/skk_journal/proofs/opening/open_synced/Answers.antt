use Rattle.std.proofs.Common.{◌≡◌, ℕ, List, Result, Ok, Err, IfOk, IfErr, sym, ◌∙◌, subst}
use Rattle.skk_disk.specs.RunLaws.{reads_on}
use Rattle.skk_disk.specs.Image.{Image, part, other}
use Rattle.skk_journal.specs.declared.choice.LiveChoice.TheVariants.{LiveIn}
use Rattle.skk_journal.specs.declared.found.FoundRecord.{FoundRecord}
use Rattle.skk_journal.specs.Found.{payloads}
use Rattle.skk_journal.specs.declared.live.Live.{Live}
use Rattle.skk_journal.specs.declared.opening.OpenedFiles.{OpenedFiles}
use Rattle.skk_journal.specs.Records.{IsVersion}
use Rattle.skk_journal.specs.Choice.{choice, ChoosesVersion}
use Rattle.skk_journal.specs.Generations.{first_live}
use Rattle.skk_journal.specs.Idle.{idle_of}
use Rattle.skk_journal.specs.Journal.{Holds}
use Rattle.skk_journal.specs.Opening.{with_contents, contents_of, IsOpened}
use Rattle.skk_journal.specs.Causes.{IsRefused}
use Rattle.skk_journal.proofs.Opened.{none_refused, cut_refused, none_opened, beside_is, none_each, none_fills}
use Rattle.skk_journal.proofs.Opened.{no_live, each_now, read_opens, read_alone, read_step, read_holds}
use Rattle.skk_journal.proofs.opening.open_synced.Goals as goal

pub returns-in-NoneBy-clause-refused : goal.returns-in-NoneBy-clause-refused
returns-in-NoneBy-clause-refused g c tells =
    none_refused c.args.newest (g.D.Disk.seen c.args.disk.now) c.in_ok-chosen.chosen.choice c.in-NoneBy.file _ _
    (c.in_ok-chosen.ensures.choice tells) c.in-NoneBy.is c.number.ensures

pub returns-in-CutShortIn-clause-refused : goal.returns-in-CutShortIn-clause-refused
returns-in-CutShortIn-clause-refused g c tells =
    cut_refused c.args.newest (g.D.Disk.seen c.args.disk.now) c.in_ok-chosen.chosen.choice c.in-CutShortIn.file _ _
    (c.in_ok-chosen.ensures.choice tells) c.in-CutShortIn.is c.number-in-CutShortIn.ensures c.new.ensures

pub returns-in_err-chosen-clause-images : goal.returns-in_err-chosen-clause-images
returns-in_err-chosen-clause-images g c contents same opens =
    read_opens g.D.Disk c.args.disk.now c.read_choice.new.disk c.read_choice.ensures.only_reads _ _
    contents same opens

pub returns-in_err-chosen-clause-first_alone : goal.returns-in_err-chosen-clause-first_alone
returns-in_err-chosen-clause-first_alone g c =
    read_alone g.D.Disk c.args.disk.now c.read_choice.new.disk c.read_choice.ensures.only_reads

pub returns-in-NoneBy-clause-images : goal.returns-in-NoneBy-clause-images
returns-in-NoneBy-clause-images g c contents same opens =
    read_opens g.D.Disk c.args.disk.now c.read_choice.new.disk c.read_choice.ensures.only_reads _ _
    contents same opens

pub returns-in-NoneBy-clause-first_alone : goal.returns-in-NoneBy-clause-first_alone
returns-in-NoneBy-clause-first_alone g c =
    read_alone g.D.Disk c.args.disk.now c.read_choice.new.disk c.read_choice.ensures.only_reads

pub returns-in-CutShortIn-clause-images : goal.returns-in-CutShortIn-clause-images
returns-in-CutShortIn-clause-images g c contents same opens =
    read_opens g.D.Disk c.args.disk.now c.read_choice.new.disk c.read_choice.ensures.only_reads _ _
    contents same opens

pub returns-in-CutShortIn-clause-first_alone : goal.returns-in-CutShortIn-clause-first_alone
returns-in-CutShortIn-clause-first_alone g c =
    read_alone g.D.Disk c.args.disk.now c.read_choice.new.disk c.read_choice.ensures.only_reads

pub returns-in_err-fill_first-in-NoLive-clause-images : goal.returns-in_err-fill_first-in-NoLive-clause-images
returns-in_err-fill_first-in-NoLive-clause-images g c contents same opens image left =
    let D = g.D.Disk in
    let start = c.args.disk.now in
    let told = g.met.D.Disk.tells_images c.fill_first.new.disk (D.time start) image left in
    let read = c.in_ok-chosen.ensures in
    none_fills D start c.read_choice.new.disk read.only_reads c.args.newest (D.seen start) same
    c.in_ok-chosen.chosen (sym (read.choice told) ∙ c.in-NoLive.is) (read.first told) (read.second told)
    (D.left_since c.fill_first.new.disk) contents c.fill_first.ensures.images opens image left

pub returns-in_err-fill_first-in-NoLive-clause-first_alone : goal.returns-in_err-fill_first-in-NoLive-clause-first_alone
returns-in_err-fill_first-in-NoLive-clause-first_alone g c =
    let D = g.D.Disk in
    read_step D c.args.disk.now c.read_choice.new.disk c.read_choice.ensures.only_reads
    (D.left_since c.fill_first.new.disk) c.fill_first.ensures.first_alone

pub returns-in_err-fill_first-in-NoLive-clause-kept : goal.returns-in_err-fill_first-in-NoLive-clause-kept
returns-in_err-fill_first-in-NoLive-clause-kept g c tells some =
    absurd (some (sym (c.in_ok-chosen.ensures.choice tells) ∙ c.in-NoLive.is))

pub returns-in_err-fill_first-in-NoLive-clause-seen : goal.returns-in_err-fill_first-in-NoLive-clause-seen
returns-in_err-fill_first-in-NoLive-clause-seen g c tells some =
    absurd (some (sym (c.in_ok-chosen.ensures.choice tells) ∙ c.in-NoLive.is))

pub returns-in_ok-fill_first-in-NoLive-clause-images : goal.returns-in_ok-fill_first-in-NoLive-clause-images
returns-in_ok-fill_first-in-NoLive-clause-images g c contents same opens image left =
    let D = g.D.Disk in
    let start = c.args.disk.now in
    let told = g.met.D.Disk.tells_images c.fill_first.new.disk (D.time start) image left in
    let read = c.in_ok-chosen.ensures in
    none_fills D start c.read_choice.new.disk read.only_reads c.args.newest (D.seen start) same
    c.in_ok-chosen.chosen (sym (read.choice told) ∙ c.in-NoLive.is) (read.first told) (read.second told)
    (D.left_since c.fill_first.new.disk) contents c.fill_first.ensures.images opens image left

pub returns-in_ok-fill_first-in-NoLive-clause-first_alone : goal.returns-in_ok-fill_first-in-NoLive-clause-first_alone
returns-in_ok-fill_first-in-NoLive-clause-first_alone g c =
    let D = g.D.Disk in
    read_step D c.args.disk.now c.read_choice.new.disk c.read_choice.ensures.only_reads
    (D.left_since c.fill_first.new.disk) c.fill_first.ensures.first_alone

pub returns-in_ok-fill_first-in-NoLive-clause-kept : goal.returns-in_ok-fill_first-in-NoLive-clause-kept
returns-in_ok-fill_first-in-NoLive-clause-kept g c tells some =
    absurd (some (sym (c.in_ok-chosen.ensures.choice tells) ∙ c.in-NoLive.is))

pub returns-in_ok-fill_first-in-NoLive-clause-seen : goal.returns-in_ok-fill_first-in-NoLive-clause-seen
returns-in_ok-fill_first-in-NoLive-clause-seen g c tells some =
    absurd (some (sym (c.in_ok-chosen.ensures.choice tells) ∙ c.in-NoLive.is))

pub returns-in_ok-fill_first-in-NoLive-clause-live : goal.returns-in_ok-fill_first-in-NoLive-clause-live
returns-in_ok-fill_first-in-NoLive-clause-live g c tells some =
    absurd (some (sym (c.in_ok-chosen.ensures.choice tells) ∙ c.in-NoLive.is))

pub returns-in_ok-fill_first-in-NoLive-clause-opened : goal.returns-in_ok-fill_first-in-NoLive-clause-opened
returns-in_ok-fill_first-in-NoLive-clause-opened g c tells =
    let is = sym (c.in_ok-chosen.ensures.choice tells) ∙ c.in-NoLive.is in
    none_opened c.args.newest (g.D.Disk.seen c.args.disk.now) _ is c.new-in-NoLive.ensures

pub returns-in_ok-fill_first-in-NoLive-clause-now : goal.returns-in_ok-fill_first-in-NoLive-clause-now
returns-in_ok-fill_first-in-NoLive-clause-now g c same image left =
    let D = g.D.Disk in
    let start = c.args.disk.now in
    let end = c.fill_first.new.disk in
    let told = g.met.D.Disk.tells_images end (D.time end) image left in
    let read = c.in_ok-chosen.ensures in
    let chosen = c.in_ok-chosen.chosen in
    let newest = c.args.newest in
    let sides = none_each D start c.read_choice.new.disk read.only_reads newest (D.seen start) same
    chosen (sym (read.choice told) ∙ c.in-NoLive.is) (read.first told) (read.second told) in
    subst (λ (l : List FoundRecord).
    Holds newest (first_live newest) chosen.second (contents_of (first_live newest) (payloads l)) image)
    (sym c.new-in-NoLive.ensures) (c.in_ok-fill_first-in-NoLive.ensures.ok sides image left)

pub returns-in_ok-fill_first-in-NoLive-clause-anew : goal.returns-in_ok-fill_first-in-NoLive-clause-anew
returns-in_ok-fill_first-in-NoLive-clause-anew g c told none same =
    let D = g.D.Disk in
    let start = c.args.disk.now in
    let read = c.in_ok-chosen.ensures in
    c.in_ok-fill_first-in-NoLive.ensures.anew
    (none_each D start c.read_choice.new.disk read.only_reads c.args.newest (D.seen start) same
    c.in_ok-chosen.chosen (sym (read.choice told) ∙ c.in-NoLive.is) (read.first told) (read.second told))

pub returns-in-LiveIn-clause-images : goal.returns-in-LiveIn-clause-images
returns-in-LiveIn-clause-images g c contents same opens =
    read_opens g.D.Disk c.args.disk.now c.open_live.new.disk
    (reads_on g.D.Disk _ _ _ c.read_choice.ensures.only_reads c.open_live.ensures.only_reads) _ _ contents same opens

pub returns-in-LiveIn-clause-first_alone : goal.returns-in-LiveIn-clause-first_alone
returns-in-LiveIn-clause-first_alone g c =
    read_alone g.D.Disk c.args.disk.now c.open_live.new.disk
    (reads_on g.D.Disk _ _ _ c.read_choice.ensures.only_reads c.open_live.ensures.only_reads)

pub returns-in-LiveIn-clause-opened : goal.returns-in-LiveIn-clause-opened
returns-in-LiveIn-clause-opened g c tells =
    let is = sym (c.in_ok-chosen.ensures.choice tells) ∙ c.in-LiveIn.is in
    let here = subst (λ (s : Image). choice c.args.newest s ≡ LiveIn c.in-LiveIn.live)
    (sym c.read_choice.ensures.only_reads.seen) is in
    subst (λ (s : Image). IfOk c.open_live.result (λ opened.
    IsOpened c.args.newest s (with_contents (contents_of opened.live (payloads opened.records)))))
    c.read_choice.ensures.only_reads.seen (c.open_live.ensures.opened c.args.newest tells here)

pub returns-in-LiveIn-clause-refused : goal.returns-in-LiveIn-clause-refused
returns-in-LiveIn-clause-refused g c tells =
    let is = sym (c.in_ok-chosen.ensures.choice tells) ∙ c.in-LiveIn.is in
    let here = subst (λ (s : Image). choice c.args.newest s ≡ LiveIn c.in-LiveIn.live)
    (sym c.read_choice.ensures.only_reads.seen) is in
    subst (λ (s : Image). IfErr c.open_live.result (IsRefused c.args.newest s)) c.read_choice.ensures.only_reads.seen
    (c.open_live.ensures.refused c.args.newest tells here)

pub returns-in-LiveIn-clause-anew : goal.returns-in-LiveIn-clause-anew
returns-in-LiveIn-clause-anew g c tells none =
    let is = sym none ∙ sym (c.in_ok-chosen.ensures.choice tells) ∙ c.in-LiveIn.is in absurd (no_live _ is)

pub returns-in-LiveIn-clause-now : goal.returns-in-LiveIn-clause-now
returns-in-LiveIn-clause-now g c =
    let D = g.D.Disk in
    let start = c.args.disk.now in
    let end = c.open_live.new.disk in
    let live = c.in-LiveIn.live in
    let chosen = c.in_ok-chosen.chosen in
    let reads = reads_on g.D.Disk _ _ _ c.read_choice.ensures.only_reads c.open_live.ensures.only_reads in
    let newest = c.args.newest in
    read_holds newest c.open_live.result D.tells _ (D.left_since end (D.time end)) (D.seen start)
    (λ tells.
    let is = sym (c.in_ok-chosen.ensures.choice tells) ∙ c.in-LiveIn.is in
    let known = c.beside-idle.ensures ∙ beside_is (D.seen start) live.file chosen
    (c.in_ok-chosen.ensures.first tells) (c.in_ok-chosen.ensures.second tells) in
    let seen = sym c.read_choice.ensures.only_reads.seen in
    subst (λ (s : Image). IfOk c.open_live.result (λ opened.
    Holds newest opened.live opened.idle (contents_of opened.live (payloads opened.records)) s))
    c.read_choice.ensures.only_reads.seen
    (c.open_live.ensures.holds newest tells (subst (λ (s : Image). choice c.args.newest s ≡ LiveIn live) seen is)
    (subst (λ (s : Image). c.beside-idle.result ≡ idle_of (part (other live.file) s)) seen known)))
    (λ same image left. (
      g.met.D.Disk.tells_images end (D.time end) image left,
      each_now D start end reads (λ now. now ≡ D.seen start) same image left,
    ))

pub returns-in-LiveIn-clause-right : goal.returns-in-LiveIn-clause-right
returns-in-LiveIn-clause-right g c =
    let right = subst (ChoosesVersion c.args.newest) c.in-LiveIn.is c.in_ok-chosen.ensures.right in
    live_right c.args.newest c.in-LiveIn.live c.open_live.result c.open_live.ensures.live right
  where
    live_right : {E : Type 0} (newest : ℕ) (live : Live) (result : Result OpenedFiles E)
        → IfOk result (λ opened. opened.live ≡ live) → IsVersion newest live.version
        → IfOk result (λ opened. IsVersion newest opened.live.version)
    live_right newest live (Err e) is right = tt
    live_right newest live (Ok opened) is right = subst (λ (l : Live). IsVersion newest l.version) (sym is) right
