-- How the two steps of adding records follow one another in a file.
use Rattle.std.proofs.Common.{◌≡◌, ◌-◌, ◌+◌, ◌≤◌, ℕ, List, false, inl, arith}
use Rattle.skk_journal.specs.declared.live.Doubt.{Doubt}
use Rattle.skk_journal.specs.declared.live.Doubt.TheVariants as doubts
use Rattle.skk_disk.specs.Image.{Image}
use Rattle.skk_disk.specs.Moments.{Passes}
use Rattle.skk_disk.specs.Steps.{InFile, ComeFrom}
use Rattle.skk_disk.specs.StepLaws.{weaker, then, within}
use Rattle.skk_disk.specs.declared.which.Which.{Which}
use Rattle.skk_journal.specs.RecordLaws.{gated_open, staged_either}
use Rattle.skk_journal.specs.Gating.{KeepsContents, Stages, KeepsStaged, Gates, Adds, AddsAllOrNone, FailsAdding}
use Rattle.skk_journal.specs.Journal.{is_in_doubt}

module _ (file : Which) (end : ℕ) (added : List (List ℕ)) where
  module _ (before now : Image → Type 0) where
    -- while the records are written none of them counts
    pub adds_none : ComeFrom (InFile file (KeepsContents end)) before now
        → ComeFrom (InFile file (AddsAllOrNone end added)) before now
    adds_none =
        weaker file (KeepsContents end) (AddsAllOrNone end added) before now
        (λ old new keeps newest generation contents is has. inl (keeps newest generation contents is has))

    -- where they could not be written, nothing is in doubt and the contents stayed
    pub fails_calm : (doubt : Doubt) → is_in_doubt doubt ≡ false
        → ComeFrom (InFile file (KeepsContents end)) before now
        → ComeFrom (InFile file (FailsAdding doubt end added)) before now
    fails_calm doubts.Calm calm come = come
    fails_calm doubts.Record calm come = cc
    fails_calm doubts.Idle calm come = cc

  module _ (some : 1 ≤ end) where
    -- the gate stands just in front of the end
    gate_at : (place : ℕ) → end ≡ place → end - 1 + 1 ≡ place
    gate_at place is = omega (arith, some, is)

    module _ (before mid now : Image → Type 0) (stages : ComeFrom (InFile file (Stages end added)) before mid) where
      -- behind an open gate all of them count
      pub adds_all : ComeFrom (InFile file (Gates (end - 1) 1)) mid now
          → ComeFrom (InFile file (Adds end added)) before now
      adds_all =
          then file (Stages end added) (Gates (end - 1) 1) (Adds end added) before mid now
          (λ old between new staged gates newest generation contents is has.
          gated_open newest generation contents added new
          (gates newest generation contents added (gate_at _ is) (staged newest generation contents is has)))
          stages

      -- where it could not be opened, they stand behind it
      pub stays_staged : ComeFrom (InFile file (KeepsStaged (end - 1))) mid now
          → ComeFrom (InFile file (Stages end added)) before now
      stays_staged =
          then file (Stages end added) (KeepsStaged (end - 1)) (Stages end added) before mid now
          (λ old between new staged keeps newest generation contents is has.
          keeps newest generation contents added (gate_at _ is) (staged newest generation contents is has))
          stages

    module _ (start mid stop : ℕ) (first second third : ℕ → Image → Type 0) (one : Passes start mid first second)
        (two : Passes mid stop second third) where
      -- at each moment none of them counts, or all of them do
      pub adds_all_or_none : ComeFrom (InFile file (KeepsContents end)) (first start) (second start)
          → ComeFrom (InFile file (Stages end added)) (first start) (second mid)
          → ComeFrom (InFile file (KeepsStaged (end - 1))) (second mid) (third mid)
          → ComeFrom (InFile file (AddsAllOrNone end added)) (first start) (third start)
      adds_all_or_none =
          within file start mid stop first second third one two (KeepsContents end) (Stages end added)
          (KeepsStaged (end - 1)) (AddsAllOrNone end added)
          (λ old new keeps newest generation contents is has. inl (keeps newest generation contents is has))
          (λ old between new staged keeps newest generation contents is has.
          staged_either newest generation contents added new
          (keeps newest generation contents added (gate_at _ is) (staged newest generation contents is has)))
