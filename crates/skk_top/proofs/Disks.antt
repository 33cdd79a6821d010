-- What runs leave of the disk, of what their parts leave.
use Rattle.std.proofs.Common.{◌≡◌, ◌≢◌, sym, subst, refl, ℕ, List}
use Rattle.std.proofs.Common.{[]}
use Rattle.skk_calls.specs.declared.chronicle.Noted.{Noted}
use Rattle.skk_calls.specs.Rows.{Row}
use Rattle.skk_calls.specs.States.{State, empty_state}
use Rattle.skk_disk.specs.declared.disk.Disk.{Ghosts}
use Rattle.skk_disk.specs.Image.{Image}
use Rattle.skk_disk.specs.Moments.{SameImages, Earlier}
use Rattle.skk_disk.specs.Runs.{Advances}
use Rattle.skk_journal.specs.Images.{Each}
use Rattle.skk_journal.specs.Choice.{choice}
use Rattle.skk_journal.specs.Contents.{no_records}
use Rattle.skk_journal.specs.Opening.{HasChosen}
use Rattle.skk_journal.specs.declared.choice.LiveChoice.TheVariants.{NoLive}
use Rattle.skk_journal.specs.declared.fault.OpenFault.{OpenFault}
use Rattle.skk_journal.specs.declared.fault.OpenFault.TheVariants as opening
use Rattle.skk_outside.specs.Faults.{Rose}
use Rattle.skk_journal.specs.Causes.{UnlessDisk}
use Rattle.learned_store.specs.Payloads.{newest_version}
use Rattle.learned_store.specs.Recovered.{Recovery, with_state, foreign, refused, IsRecovered, IsRefused}
use Rattle.learned_store.specs.Recovered.{IsOpenedWith}
use Rattle.learned_store.specs.Stores.{OpenStore, opening_now, Recovers}
use Rattle.learned_store.specs.Stands.{RecoversBy}
use Rattle.batch_store.specs.Pieces.{RecoversByPieces}
use Rattle.caller_work.specs.Disks.{disk_now}
use Rattle.caller_work.specs.DiskLaws.{behind-nothing, runs-nothing}
use Rattle.skk_top.specs.Disks.{MovedDisk, moved_disk, RefusesLearned, IsOpening}
use Rattle.caller_work.specs.Disks.{RunsOver}
use Rattle.skk_top.specs.Disks.{StandsSince}
use Rattle.skk_top.specs.ImportCommand.{StandsBehind, StandsSinceInPieces}
use Rattle.run_endings.specs.Status.{Ended, fault_of_opening}
use Rattle.run_endings.specs.Finishes.{finish_of}
use Rattle.run_endings.specs.declared.finish.Finish.{Finish}
use Rattle.run_endings.specs.declared.finish.Run.{Run}

-- what is left of a disk to which nothing was done, or whose learned dictionary was not opened
pub stands-unopened : (disk : MovedDisk) → Earlier disk.after.left_since
    → ((state : State) (start : Image) → Each (disk.before.left_since disk.before.time) (λ image. image ≡ start)
    → Recovers state start → Each (disk.after.left_since disk.before.time) (Recovers state))
    → StandsSince [] disk
stands-unopened disk earlier opens state start same recovers time image from to left =
    behind-nothing state time image
    (opens state start same recovers image (earlier disk.before.time time image from left))

pub stands-untouched : (disk : MovedDisk) → Earlier disk.before.left_since
    → SameImages disk.before.left_since disk.after.left_since → StandsSince [] disk
stands-untouched disk earlier same state start all recovers time image from to left =
    let there = same.no_more time image left in
    behind-nothing state time image
    (subst (Recovers state) (sym (all image (earlier disk.before.time time image from there))) recovers)

module _ {D : Type 0} (ghosts : Ghosts D) (earlier : (disk : D) → Earlier (ghosts.left_since disk))
    (reads_image : (disk : D) → ghosts.tells → ghosts.left_since disk (ghosts.time disk) (ghosts.seen disk))
    (tells_images : (disk : D) (t : ℕ) (image : Image) → ghosts.left_since disk t image → ghosts.tells)
    (one_way : (image : Image) (one two : Recovery) → IsRecovered image one → IsRecovered image two → one ≡ two)
    (old mid new : D) (opened : State) (chronicle : List Noted) where
  -- the state that was opened is the one that each image was opened as at the start
  state-opened : {end : ℕ} → IsOpenedWith ghosts.tells (ghosts.seen old) opened end → (state : State) (start : Image)
      → Each (ghosts.left_since old (ghosts.time old)) (λ image. image ≡ start) → Recovers state start
      → (moment : ℕ) (image : Image) → ghosts.left_since new moment image → opened ≡ state
  state-opened {end} is state start same recovers moment image left =
      let told = tells_images new moment image left in
      let here : ghosts.seen old ≡ start = same (ghosts.seen old) (reads_image old told) in
      let one : with_state opened ≡ with_state state =
      one_way start (with_state opened) (with_state state)
      (subst (λ (i : Image). Recovers opened i) here (is.contents, is.told told, is.leave)) recovers in
      cc one

  -- the learned dictionary was opened, and a run went on
  pub stands-opened : {end : ℕ} → IsOpenedWith ghosts.tells (ghosts.seen old) opened end
      → Advances ghosts old mid
      → ((state : State) (start : Image) → Each (ghosts.left_since old (ghosts.time old)) (λ image. image ≡ start)
      → Recovers state start → Each (ghosts.left_since mid (ghosts.time old)) (Recovers state))
      → RunsOver opened chronicle (disk_now ghosts mid) (disk_now ghosts new)
      → StandsSince chronicle (moved_disk ghosts old new)
  stands-opened {end} is advances opens runs state start same recovers moment image from to left =
      let equal = state-opened is state start same recovers moment image left in
      subst (λ (s : State). RecoversBy s chronicle moment image) equal (runs.since (ghosts.time old) advances.past.later
      (λ t i start_at end there. subst (λ (s : State). Recovers s i) (sym equal)
      (opens state start same recovers i (earlier mid (ghosts.time old) t i start_at there)))
      moment image from to left)

  -- and where it learns in groups
  pub stands-in-pieces : {end : ℕ} → IsOpenedWith ghosts.tells (ghosts.seen old) opened end → Advances ghosts old mid
      → ((state : State) (start : Image) → Each (ghosts.left_since old (ghosts.time old)) (λ image. image ≡ start)
      → Recovers state start → Each (ghosts.left_since mid (ghosts.time old)) (Recovers state))
      → (lists : List (List Noted)) → StandsBehind opened lists (disk_now ghosts mid) (disk_now ghosts new)
      → StandsSinceInPieces lists (moved_disk ghosts old new)
  stands-in-pieces {end} is advances opens lists behind state start same recovers moment image from to left =
      let equal = state-opened is state start same recovers moment image left in
      subst (λ (s : State). RecoversByPieces s lists moment image) equal (behind (ghosts.time old) advances.past.later
      (λ t i start_at end there. subst (λ (s : State). Recovers s i) (sym equal)
      (opens state start same recovers i (earlier mid (ghosts.time old) t i start_at there)))
      moment image from to left)

module _ (one_way : (image : Image) (one two : Recovery) → IsRecovered image one → IsRecovered image two → one ≡ two)
  where
    -- an image that is not opened as a state has a live file, or is refused before that is looked for
    kept : (image : Image) (recovery : Recovery) → IsRecovered image recovery
        → ((state : State) → ¬ (with_state state ≡ recovery)) → choice newest_version image ≢ NoLive
    kept image recovery is none anew =
        none empty_state
        (one_way image (with_state empty_state) recovery (
          no_records newest_version,
          subst (HasChosen newest_version image (no_records newest_version)) (sym anew) refl,
          refl,
        ) is)

    -- why a learned dictionary is not had, by why it was not opened
    pub refuses-learned : (disk : MovedDisk) (why : OpenFault) → (disk.tells → IsRefused disk.seen why)
        → (why ≡ opening.Disk → Rose disk.before.faults disk.after.faults)
        → (disk.tells → choice newest_version disk.seen ≢ NoLive
        → Each (disk.after.left_since disk.before.time) (disk.before.left_since disk.before.time))
        → (disk.tells → choice newest_version disk.seen ≢ NoLive → UnlessDisk why (disk.seen' ≡ disk.seen))
        → RefusesLearned disk (fault_of_opening why)
    refuses-learned disk opening.Disk is failed images seen = failed refl
    refuses-learned disk (opening.NotJournal number first) is failed images seen = λ told.
        let why = is told in
        let live = kept disk.seen (foreign why.0 first) why.2 (λ state same. cc same) in
        (why, record { seen = seen told live; images = images told live })
    refuses-learned disk (opening.BadRecord number at version before) is failed images seen = λ told.
        let why = is told in
        let live = kept disk.seen (refused why.0 at) why.2 (λ state same. cc same) in
        ((why.0, why.1, why.2, refl), record { seen = seen told live; images = images told live })
    refuses-learned disk opening.Memory is failed images seen = tt

module _ {D : Type 0} (ghosts : Ghosts D) where
  -- a run that made no call, on a disk that it did not touch
  pub stands-quiet : (disk : D) → Earlier (ghosts.left_since disk) → (ended : Ended) (run : Run D)
      → run ≡ record { ended = ended; chronicle = []; disk = disk }
      → StandsSince run.chronicle (moved_disk ghosts disk run.disk)
  stands-quiet disk earlier ended run is =
      subst (λ (r : Run D). StandsSince r.chronicle (moved_disk ghosts disk r.disk)) (sym is)
      (stands-untouched (moved_disk ghosts disk disk) earlier
      (record { no_more = λ t image left. left; no_fewer = λ t image left. left }))

  -- and one whose learned file was not opened
  pub stands-refused : (old new : D) → Earlier (ghosts.left_since new) → (ended : Ended) (run : Run D)
      → run ≡ record { ended = ended; chronicle = []; disk = new }
      → ((state : State) (start : Image) → Each (ghosts.left_since old (ghosts.time old)) (λ image. image ≡ start)
      → Recovers state start → Each (ghosts.left_since new (ghosts.time old)) (Recovers state))
      → StandsSince run.chronicle (moved_disk ghosts old run.disk)
  stands-refused old new earlier ended run is opens =
      subst (λ (r : Run D). StandsSince r.chronicle (moved_disk ghosts old r.disk)) (sym is)
      (stands-unopened (moved_disk ghosts old new) earlier opens)

  -- a run is told and finishes
  pub stands-finish : (Stands : List Noted → MovedDisk → Type 0) (old : D) (run : Run D) (finish : Finish D)
      → finish ≡ finish_of run → Stands run.chronicle (moved_disk ghosts old run.disk)
      → Stands finish.chronicle (moved_disk ghosts old finish.disk)
  stands-finish Stands old run finish is stands =
      subst (λ (f : Finish D). Stands f.chronicle (moved_disk ghosts old f.disk)) (sym is) stands

  pub runs-quiet : (opened : State) (disk : D) (ended : Ended) (run : Run D)
      → run ≡ record { ended = ended; chronicle = []; disk = disk }
      → RunsOver opened run.chronicle (disk_now ghosts disk) (disk_now ghosts run.disk)
  runs-quiet opened disk ended run is =
      subst (λ (r : Run D). RunsOver opened r.chronicle (disk_now ghosts disk)
      (disk_now ghosts r.disk)) (sym is) (runs-nothing opened (disk_now ghosts disk))

  -- a learned file was opened so
  pub opened-so : (old new : D) (store : OpenStore D) (books : List (List Row)) (most : ℕ) → store.files ≡ books
      → store.limit ≡ most → IsOpenedWith ghosts.tells (ghosts.seen old) store.state store.journal.end
      → Advances ghosts old store.journal.disk
      → IsOpening (moved_disk ghosts old new) books most (opening_now ghosts store)
  opened-so old new store books most files limit is advances =
      record {
        files = files;
        limit = limit;
        opened = is;
        later = advances.past.later;
        counted = advances.counted;
      }
