-- Two calls one after another that keep the first byte of a file 0.
use Rattle.std.proofs.Common.{ℕ}
use Rattle.skk_disk.specs.Image.{Image}
use Rattle.skk_disk.specs.Moments.{Passes, Earlier}
use Rattle.skk_disk.specs.Steps.{InFile, ComeFrom, Makes}
use Rattle.skk_disk.specs.StepLaws.{within, at_end}
use Rattle.skk_disk.specs.declared.which.Which.{Which}
use Rattle.skk_journal.specs.Idle.{IsBlank}

module _ (file : Which) (start mid end : ℕ) (first second third : ℕ → Image → Type 0)
    (one : Passes start mid first second) (two : Passes mid end second third) (earlier : Earlier second) where
  -- at each moment of both the first byte stays 0
  pub both_blank : ComeFrom (InFile file (Makes IsBlank IsBlank)) (first start) (second start)
      → ComeFrom (InFile file (Makes IsBlank IsBlank)) (second mid) (third mid)
      → ComeFrom (InFile file (Makes IsBlank IsBlank)) (first start) (third start)
  both_blank in_one in_two =
      within file start mid end first second third one two (Makes IsBlank IsBlank) (Makes IsBlank IsBlank)
      (Makes IsBlank IsBlank) (Makes IsBlank IsBlank) (λ old new keeps. keeps)
      (λ old between new keeps also blank. also (keeps blank)) in_one
      (at_end file start mid first second one earlier (Makes IsBlank IsBlank) in_one) in_two
