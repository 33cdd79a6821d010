-- What a closed dictionary leaves of its disk.
use Rattle.std.proofs.Common.{◌≡◌, inl, inr, sym, ap, subst, arith, ℕ, ◌≤◌, List}
use Rattle.skk_calls.specs.declared.chronicle.Noted.{Noted}
use Rattle.skk_calls.specs.Chronicles.{history_of}
use Rattle.skk_calls.specs.Histories.{Opening, state_after}
use Rattle.skk_calls.specs.Tallies.{Tally, tally_of}
use Rattle.skk_disk.specs.declared.disk.Disk.{Ghosts}
use Rattle.skk_disk.specs.Image.{Image}
use Rattle.skk_disk.specs.Moments.{SameImages}
use Rattle.learned_store.specs.Stands.{left_behind, StandsOver, RecoverAmong, Stands}
use Rattle.learned_store.specs.Stores.{OpenStore, opening_now, Recovers}
use Rattle.caller_work.specs.DiskLaws.{counted-on}
use Rattle.caller_work.specs.Disks.{disk_now, Closes}

-- of a store that was opened over a disk, named, and closed behind its calls
pub closes : {D : Type 0} (disk : Ghosts D) (opening : Opening)
    (past : ℕ → Image → Type 0) (before store : OpenStore D) (notes : List Noted) (tally : Tally)
    → opening ≡ opening_now disk before → SameImages past (disk.left_since before.journal.disk)
    → Stands disk opening past notes store
    → RecoverAmong (state_after opening.state (history_of notes)) (left_behind opening.state notes)
    (disk.left_since store.journal.disk (disk.time store.journal.disk))
    → ((start : ℕ)
    → ((moment : ℕ) (image : Image) → start ≤ moment → moment ≤ opening.time → past moment image
    → Recovers opening.state image)
    → StandsOver opening.state notes start (disk.time store.journal.disk) (disk.left_since store.journal.disk))
    → tally ≡ tally_of opening.state (history_of notes)
    → Closes opening (record { disk = store.journal.disk; tally = tally; chronicle = notes })
    (disk_now disk before.journal.disk) (disk_now disk store.journal.disk)
closes disk opening past before store notes tally named same stands now since counts =
    let at : opening.time ≡ disk.time before.journal.disk = ap (λ (o : Opening). o.time) named in
    let counted : opening.faults ≡ disk.faults before.journal.disk = ap (λ (o : Opening). o.faults) named in
    record {
      legal = stands.legal;
      tally_is = counts;
      kept = record { moments = stands.moments; now = now; goes_on = stands.goes_on; fits = stands.fits };
      runs = record {
        since = λ start begun so. since start (λ moment image from to there.
            so moment image from (omega (arith, to, at)) (same.no_fewer moment image there));
        passes = record {
          later = omega (arith, stands.passes.later, at);
          goes_on = λ t image le left. elim (stands.passes.goes_on t image (omega (arith, le, at)) left) [
            | inl there ↦ inl (same.no_fewer t image there)
            | inr here ↦ inr (subst (λ (n : ℕ). disk.left_since store.journal.disk n image) at here)
          ];
          keeps = λ t image le left. stands.passes.keeps t image (omega (arith, le, at)) (same.no_more t image left);
        };
        counted = omega (
          arith,
          counted,
          counted-on opening.time opening.faults notes (disk.time store.journal.disk) (disk.faults store.journal.disk)
              stands.goes_on,
        );
      };
    }

-- the same where the store is known to be there, as behind a desk
pub closes-at : {D : Type 0} (disk : Ghosts D) (opening : Opening)
    (past : ℕ → Image → Type 0) (before : OpenStore D) (notes : List Noted) (tally : Tally) (left : D)
    → opening ≡ opening_now disk before → SameImages past (disk.left_since before.journal.disk)
    → (store : OpenStore D) × (left ≡ store.journal.disk) × Stands disk opening past notes store
    → RecoverAmong (state_after opening.state (history_of notes)) (left_behind opening.state notes)
    (disk.left_since left (disk.time left))
    → ((start : ℕ)
    → ((moment : ℕ) (image : Image) → start ≤ moment → moment ≤ opening.time → past moment image
    → Recovers opening.state image)
    → StandsOver opening.state notes start (disk.time left) (disk.left_since left))
    → tally ≡ tally_of opening.state (history_of notes)
    → Closes opening (record { disk = left; tally = tally; chronicle = notes })
    (disk_now disk before.journal.disk) (disk_now disk left)
closes-at {D} disk opening past before notes tally left named same stands now since counts =
    subst (λ (d : D). Closes opening (record { disk = d; tally = tally; chronicle = notes })
    (disk_now disk before.journal.disk) (disk_now disk d)) (sym stands.1)
    (closes disk opening past before stands.0 notes tally named same stands.2
    (subst (λ (d : D). RecoverAmong (state_after opening.state (history_of notes)) (left_behind opening.state notes)
    (disk.left_since d (disk.time d))) stands.1 now)
    (λ start so. subst (λ (d : D). StandsOver opening.state notes start (disk.time d) (disk.left_since d)) stands.1
    (since start so)) counts)
