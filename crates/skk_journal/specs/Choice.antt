-- Which of both files is live.
use Rattle.std.specs.Prelude.{⊤, ℕ, if◌then◌else◌}
use Rattle.skk_disk.specs.Image.{Image}
use Rattle.skk_disk.specs.declared.which.Which.{Which}
use Rattle.skk_disk.specs.declared.which.Which.TheVariants.{A, B}
use Rattle.skk_journal.specs.declared.head.Head.{Head}
use Rattle.skk_journal.specs.declared.head.Head.TheVariants.{Fresh, Foreign, CutShort, Headed}
use Rattle.skk_journal.specs.declared.live.Idle.{Idle}
use Rattle.skk_journal.specs.declared.choice.LiveChoice.{LiveChoice}
use Rattle.skk_journal.specs.declared.choice.Chosen.{Chosen}
use Rattle.skk_journal.specs.declared.choice.LiveChoice.TheVariants.{NoneBy, CutShortIn, NoLive, LiveIn}
use Rattle.skk_journal.specs.Records.{IsVersion}
use Rattle.skk_journal.specs.Generations.{first_counts}
use Rattle.skk_journal.specs.Heads.{head_of}

-- this file is live, with this version and this generation
abbrev pub lives : Which → ℕ → ℕ → LiveChoice
lives file version generation = LiveIn (record { file = file; version = version; generation = generation })

-- the choice by the heads of both files: the first one that is no learned file refuses both, then the first one without
-- a whole generation; a single headed file is live, and of two that which counts, whatever their versions are
abbrev pub choice_of : Head → Head → LiveChoice
choice_of (Foreign first) second = NoneBy A first
choice_of first (Foreign second) = NoneBy B second
choice_of CutShort second = CutShortIn A
choice_of first CutShort = CutShortIn B
choice_of Fresh Fresh = NoLive
choice_of (Headed version own) Fresh = lives A version own
choice_of Fresh (Headed version own) = lives B version own
choice_of (Headed version first) (Headed other second) =
    if first_counts first second then lives A version first else lives B other second

-- the choice between the files of an image, where this version is the newest one
abbrev pub choice : ℕ → Image → LiveChoice
choice newest image = choice_of (head_of newest image.a) (head_of newest image.b)

-- the file that is chosen as the live one has a right version
abbrev pub ChoosesVersion : ℕ → LiveChoice → Type 0
ChoosesVersion newest (LiveIn live) = IsVersion newest live.version
ChoosesVersion newest choice = ⊤

-- what is known of the file that is not this one
abbrev pub idle_beside : Which → Chosen → Idle
idle_beside A chosen = chosen.second
idle_beside B chosen = chosen.first
