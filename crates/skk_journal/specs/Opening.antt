-- What both files of a disk are opened as, by their bytes alone.
use Rattle.std.specs.Prelude.{◌≡◌, ℕ, ◌==◌, ◌&&◌, Bool, true, List, [], ◌∷◌, ◌++◌, All}
use Rattle.std.specs.Option.{is_none}
use Rattle.skk_disk.specs.Image.{Image, part}
use Rattle.skk_disk.specs.declared.which.Which.{Which}
use Rattle.skk_journal.specs.declared.choice.LiveChoice.{LiveChoice}
use Rattle.skk_journal.specs.declared.choice.LiveChoice.TheVariants.{NoneBy, CutShortIn, NoLive, LiveIn}
use Rattle.skk_journal.specs.declared.live.Live.{Live}
use Rattle.skk_journal.specs.Records.{IsSized, IsGeneration, sized_payload, generation_place, front, place_behind}
use Rattle.skk_journal.specs.Records.{HasContents}
use Rattle.skk_journal.specs.Contents.{Contents, no_records}
use Rattle.skk_journal.specs.Choice.{choice}

-- from the place of a gate on: there is no gate, or it is open and no good record stands whole behind it
abbrev pub is_bad : List ℕ → Bool
is_bad [] = true
is_bad (gate ∷ rest) = gate == 1 && is_none (sized_payload.step rest)

-- at this place, behind these contents, a file of this generation has no gate, or an open one and no good record stands
-- whole behind it
pub record BreaksOff (generation : ℕ) (contents : Contents) (at : ℕ) (file : List ℕ) : Type 0 where
  pub tail : List ℕ
  pub is : file ≡ front generation contents ++ tail
  pub told : IsGeneration generation
  pub sized : All IsSized contents.records
  pub bad : is_bad tail ≡ true
  pub place : at ≡ place_behind contents.records

-- what both files are opened as: these contents; no learned file, by the first byte of one of them; or the least place
-- in one of them that is refused, and what that file has before it
pub data Opening : Type 0 where
  with_contents : Contents → Opening
  not_journal : Which → ℕ → Opening
  bad_record : Which → ℕ → Contents → Opening

-- what a live file has where these are its records
abbrev pub contents_of : Live → List (List ℕ) → Contents
contents_of live records = record { version = live.version; records = records }

-- by this choice the files of an image are opened with these contents: those of the live file, or none of the newest
-- version
abbrev pub HasChosen : ℕ → Image → Contents → LiveChoice → Type 0
HasChosen newest image contents NoLive = contents ≡ no_records newest
HasChosen newest image contents (LiveIn live) =
    HasContents newest live.generation contents (part live.file image)
HasChosen newest image contents refused = ⊥

-- by this choice the files of an image are refused at this place of this file, behind these contents
abbrev pub BreaksOffIn : ℕ → Image → Which → ℕ → Contents → LiveChoice → Type 0
BreaksOffIn newest image file at before (CutShortIn cut) =
    (file ≡ cut) × (at ≡ generation_place) × (before ≡ no_records newest)
BreaksOffIn newest image file at before (LiveIn live) =
    (file ≡ live.file) × (before.version ≡ live.version)
    × BreaksOff live.generation before at (part live.file image)
BreaksOffIn newest image file at before other = ⊥

-- an image is opened so, where this version is the newest one
abbrev pub IsOpened : ℕ → Image → Opening → Type 0
IsOpened newest image (with_contents contents) = HasChosen newest image contents (choice newest image)
IsOpened newest image (not_journal file first) = choice newest image ≡ NoneBy file first
IsOpened newest image (bad_record file at before) = BreaksOffIn newest image file at before (choice newest image)
