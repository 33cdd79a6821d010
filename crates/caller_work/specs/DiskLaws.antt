-- What calls leave of a disk, of what their parts leave.
use Rattle.std.proofs.Common.{arith, ℕ, ◌<◌, ◌≤◌, List, [], ◌∷◌, refl}
use Rattle.std.proofs.lemmas.List.Elements.{All-nil}
use Rattle.skk_calls.specs.declared.chronicle.Noted.{Noted}
use Rattle.skk_calls.specs.States.{State}
use Rattle.skk_disk.specs.Image.{Image}
use Rattle.skk_disk.specs.MomentLaws.{passes_nothing}
use Rattle.learned_store.specs.Stores.{Recovers}
use Rattle.learned_store.specs.Stands.{time_of, faults_of, RecoversBy, GoOn}
use Rattle.caller_work.specs.Disks.{DiskNow, RunsOver}

-- a state that an image is opened as stands behind no notes
pub behind-nothing : (state : State) (time : ℕ) (image : Image) → Recovers state image
    → RecoversBy state [] time image
behind-nothing state time image is = record {
  front = [];
  back = [];
  is = refl;
  later = All-nil (λ (note : Noted). time < time_of note);
  recovers = (state, (0, omega arith, refl), is);
}

-- a disk to which nothing was done goes on so
pub runs-nothing : (opened : State) (disk : DiskNow) → RunsOver opened [] disk disk
runs-nothing opened disk = record {
  since = λ start begun so time image from to left. behind-nothing opened time image (so time image from to left);
  passes = passes_nothing disk.time disk.left_since;
  counted = omega arith;
}

-- no count of faults falls along notes
pub counted-on : (time faults : ℕ) (notes : List Noted) (last_time last_faults : ℕ)
    → GoOn time faults notes last_time last_faults → faults ≤ last_faults
counted-on time faults [] last_time last_faults on = omega (arith, on.1)
counted-on time faults (first ∷ notes) last_time last_faults on =
    let rest = counted-on (time_of first) (faults_of first) notes last_time last_faults on.3 in
    omega (arith, on.1, rest)
