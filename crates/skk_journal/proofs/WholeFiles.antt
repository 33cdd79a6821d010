-- A file whose head is whole, and what is read of it.
use Rattle.std.proofs.Common.{◌≡◌, ℕ, List, ◌∷◌, ◌++◌, drop, refl, sym, ◌∙◌, ap, subst, append_assoc}
use Rattle.std.specs.Int.{w64}
use Rattle.std.proofs.lemmas.List.{drop_at}
use Rattle.exact_readers.specs.Numbers.{number_bytes}
use Rattle.exact_readers.specs.NumberLaws.{told_64}
use Rattle.skk_disk.specs.Image.{Image, part}
use Rattle.skk_journal.specs.declared.fault.OpenFault.{OpenFault}
use Rattle.skk_journal.specs.declared.found.FoundRecord.{FoundRecord}
use Rattle.skk_journal.specs.declared.live.Live.{Live}
use Rattle.skk_journal.specs.declared.choice.LiveChoice.TheVariants.{LiveIn}
use Rattle.skk_journal.specs.declared.records.RecordsFault.{RecordsFault}
use Rattle.skk_journal.specs.declared.records.RecordsFault.TheVariants.{Disk, Memory, Bad}
use Rattle.skk_journal.specs.Contents.{Contents}
use Rattle.skk_journal.specs.Records.{mark, framed, front, HasContents, Marked}
use Rattle.skk_journal.specs.Found.{payloads}
use Rattle.skk_journal.specs.Choice.{choice}
use Rattle.skk_journal.specs.ChoiceLaws.{live_marked}
use Rattle.skk_journal.specs.Opening.{contents_of, BreaksOff, BreaksOffIn}
use Rattle.skk_journal.specs.Reading.{AreRead, BreakOff, SameCause}
use Rattle.skk_journal.specs.Causes.{IsRefused}

-- a head and what is behind it
pub front_is : (newest generation : ℕ) (contents : Contents) (file : List ℕ)
    → Marked newest 1 contents.version generation file → (tail : List ℕ)
    → drop 17 file ≡ framed contents.records ++ tail → file ≡ front generation contents ++ tail
front_is newest generation contents file marked tail read =
    let bytes = number_bytes w64 generation in
    let records = contents.records in
    let behind : drop 17 file ≡ marked.rest =
    ap (λ (l : List ℕ). drop 17 l) marked.is ∙ drop_at bytes marked.rest 8 (told_64.long generation) in
    marked.is ∙ ap (λ (l : List ℕ). 1 ∷ (mark contents.version ++ (bytes ++ l))) (sym behind ∙ read)
    ∙ ap (λ (l : List ℕ). 1 ∷ (mark contents.version ++ l)) (sym (append_assoc bytes (framed records) tail))

-- its contents as they were read
pub recorded : (newest : ℕ) (live : Live) (file : List ℕ) (records : List FoundRecord)
    → Marked newest 1 live.version live.generation file → AreRead (drop 17 file) records
    → HasContents newest live.generation (contents_of live (payloads records)) file
recorded newest live file records marked (tail, read, sized, (gate, rest, ends, shut)) =
    let contents = contents_of live (payloads records) in
    record {
      gate = gate;
      rest = rest;
      is =
          front_is newest live.generation contents file marked tail read
          ∙ ap (λ (l : List ℕ). front live.generation contents ++ l) ends;
      right = marked.right;
      told = marked.told;
      sized = sized;
      closed = shut;
    }

-- the place where they break off, told as why the files are refused
pub refused : (newest : ℕ) (image : Image) (live : Live) (fault : RecordsFault) (why : OpenFault)
    → choice newest image ≡ LiveIn live → BreakOff (drop 17 (part live.file image)) fault
    → SameCause live fault why → IsRefused newest image why
refused newest image live Disk why is broken from = subst (IsRefused newest image) (sym from) tt
refused newest image live Memory why is broken from = subst (IsRefused newest image) (sym from) tt
refused newest image live (Bad at before) why is (tail, read, sized, bad, place, places) from =
    let file = part live.file image in
    let marked = live_marked newest image live is in
    let contents = contents_of live (payloads before) in
    let off : BreaksOff live.generation contents at file = record {
      tail = tail;
      is = front_is newest live.generation contents file marked tail read;
      told = marked.told;
      sized = sized;
      bad = bad;
      place = place;
    } in
    subst (IsRefused newest image) (sym from) (
      live.file,
      refl,
      subst (BreaksOffIn newest image live.file at contents) (sym is) (refl, refl, off),
      places,
    )
