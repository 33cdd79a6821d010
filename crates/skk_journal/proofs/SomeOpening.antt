-- Each image is opened in some way.
use Rattle.std.proofs.Common.{◌≡◌, inl, inr, ℕ, List, ◌++◌, drop, refl, sym, ◌∙◌, ap, subst}
use Rattle.exact_readers.specs.Formats.{taken}
use Rattle.exact_readers.specs.ManyLaws.{taken-sound}
use Rattle.skk_disk.specs.Image.{Image, part}
use Rattle.skk_journal.specs.declared.live.Live.{Live}
use Rattle.skk_journal.specs.declared.choice.LiveChoice.{LiveChoice}
use Rattle.skk_journal.specs.declared.choice.LiveChoice.TheVariants.{NoneBy, CutShortIn, NoLive, LiveIn}
use Rattle.skk_journal.specs.Contents.{no_records}
use Rattle.skk_journal.specs.Records.{open_record, front, place_behind, HasContents}
use Rattle.skk_journal.specs.FrameLaws.{open_record-exact, spelled_framed, stops_at}
use Rattle.skk_journal.specs.Choice.{choice}
use Rattle.skk_journal.specs.ChoiceLaws.{live_marked}
use Rattle.skk_journal.specs.Opening.{Opening, with_contents, not_journal, bad_record, HasChosen, BreaksOffIn}
use Rattle.skk_journal.specs.Opening.{contents_of, BreaksOff, IsOpened}
use Rattle.skk_journal.proofs.WholeFiles.{front_is}

opened_live : (newest : ℕ) (image : Image) (live : Live) → choice newest image ≡ LiveIn live
    → (opening : Opening) × IsOpened newest image opening
opened_live newest image live is =
    let file = part live.file image in
    let marked = live_marked newest image live is in
    let records = (taken open_record.step (drop 17 file)).0 in
    let tail = (taken open_record.step (drop 17 file)).1 in
    let contents = contents_of live records in
    let read = taken-sound open_record open_record-exact (drop 17 file) in
    let spelled = spelled_framed records read.pieces read.spelled in
    let file_is = front_is newest live.generation contents file marked tail
    (read.tokens_are ∙ ap (λ (l : List ℕ). l ++ tail) spelled.1) in
    elim (stops_at tail read.ends) [
      | inl (gate, rest, starts, shut) ↦
          let has : HasContents newest live.generation contents file = record {
            gate = gate;
            rest = rest;
            is = file_is ∙ ap (λ (l : List ℕ). front live.generation contents ++ l) starts;
            right = marked.right;
            told = marked.told;
            sized = spelled.0;
            closed = shut;
          } in
          (with_contents contents, subst (HasChosen newest image contents) (sym is) has)
      | inr bad ↦
          let off : BreaksOff live.generation contents (place_behind records) file = record {
            tail = tail;
            is = file_is;
            told = marked.told;
            sized = spelled.0;
            bad = bad;
            place = refl;
          } in (
            bad_record live.file (place_behind records) contents,
            subst (BreaksOffIn newest image live.file (place_behind records) contents) (sym is) (refl, refl, off),
          )
    ]

some_opening : (newest : ℕ) (image : Image) → (opening : Opening) × IsOpened newest image opening
some_opening newest image = by (choice newest image) refl
  where
    by : (chosen : LiveChoice) → choice newest image ≡ chosen → (opening : Opening) × IsOpened newest image opening
    by (NoneBy file first) is = (not_journal file first, is)
    by (CutShortIn file) is = (
      bad_record file 9 (no_records newest),
      subst (BreaksOffIn newest image file 9 (no_records newest)) (sym is) (refl, refl, refl),
    )
    by NoLive is =
        (with_contents (no_records newest), subst (HasChosen newest image (no_records newest)) (sym is) refl)
    by (LiveIn live) is = opened_live newest image live is
