-- Why both files of a disk are refused, of whose live file no state was recovered.
use Rattle.std.proofs.Common.{◌≡◌, ◌≢◌, ℕ, List, [], ◌∷◌, ◌++◌, inl, refl, sym, ◌∙◌, ap, subst}
use Rattle.skk_disk.specs.Image.{Image}
use Rattle.skk_journal.specs.declared.choice.LiveChoice.TheVariants.{NoLive, LiveIn}
use Rattle.skk_journal.specs.declared.fault.OpenFault.{OpenFault}
use Rattle.skk_journal.specs.declared.fault.OpenFault.TheVariants.{Disk, NotJournal, BadRecord, Memory}
use Rattle.skk_journal.specs.declared.live.Live.{Live}
use Rattle.skk_journal.specs.Causes.{file_number, UnlessDisk}
use Rattle.skk_journal.specs.Choice.{choice}
use Rattle.skk_journal.specs.Contents.{Contents, no_records}
use Rattle.skk_journal.specs.Opening.{with_contents, HasChosen, IsOpened}
use Rattle.learned_store.specs.declared.recovery.RecoverFault.{RecoverFault}
use Rattle.learned_store.specs.declared.recovery.RecoverFault.TheVariants as recovering
use Rattle.learned_store.specs.Payloads.{newest_version}
use Rattle.learned_store.specs.Recovered.{BreakAt, BreaksIn, IsRefused}
use Rattle.learned_store.specs.Recovering.{IsBreak, refusal_of}

some_item : {X : Type 0} (before : List X) (x : X) (behind : List X) → ¬ ([] ≡ before ++ x ∷ behind)
some_item [] x behind is = cc is
some_item (first ∷ before) x behind is = cc is

-- records that say nothing from a place on are those of a live file, since beside no live file there are none
breaks_live : (image : Image) (live : Live) (contents : Contents) (at : ℕ)
    → (choice newest_version image ≢ NoLive → choice newest_version image ≡ LiveIn live)
    → IsOpened newest_version image (with_contents contents) → BreakAt contents at
    → choice newest_version image ≡ LiveIn live
breaks_live image live contents at chosen opened breaks = chosen (λ anew.
    let none : contents ≡ no_records newest_version =
    subst (HasChosen newest_version image contents) anew opened in
    some_item breaks.before breaks.payload breaks.behind
    (sym (ap (λ (c : Contents). c.records) none) ∙ breaks.is))

-- so the live file is refused
pub refused_live : (image : Image) (live : Live) (contents : Contents) (version : ℕ) (fault : RecoverFault)
    → (choice newest_version image ≢ NoLive → choice newest_version image ≡ LiveIn live)
    → IsOpened newest_version image (with_contents contents) → IsBreak contents fault
    → IsRefused image (refusal_of (file_number live.file) version fault)
refused_live image live contents version (recovering.Break at) chosen opened breaks =
    let why : BreaksIn image live.file at = record {
      live = live;
      chosen = breaks_live image live contents at chosen opened breaks;
      of_live = refl;
      contents = contents;
      opened = opened;
      breaks = breaks;
    } in
    (live.file, refl, inl why, refl)
refused_live image live contents version recovering.Memory chosen opened breaks = tt

-- what holds unless a disk failed, by another telling of why that tells of a disk wherever the first one does

holds : (P : Type 0) (why : OpenFault) → (why ≢ Disk) → UnlessDisk why P → P
holds P Disk sound unless = absurd (sound refl)
holds P (NotJournal file first) sound unless = unless
holds P (BadRecord file at version before) sound unless = unless
holds P Memory sound unless = unless

pub unless_disk : (P : Type 0) (why told : OpenFault) → (why ≡ Disk → told ≡ Disk) → UnlessDisk why P
    → UnlessDisk told P
unless_disk P why Disk same unless = tt
unless_disk P why (NotJournal file first) same unless = holds P why (λ is. cc (same is)) unless
unless_disk P why (BadRecord file at version before) same unless = holds P why (λ is. cc (same is)) unless
unless_disk P why Memory same unless = holds P why (λ is. cc (same is)) unless
