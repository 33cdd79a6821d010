-- Generations, and which of two files counts by them.
use Rattle.std.specs.Prelude.{⊤, ℕ, ◌+◌, ◌-◌, Bool, true, false, not, ◌==◌, nat_lt, if◌then◌else◌, Option, None, Some}
use Rattle.skk_disk.specs.declared.which.Which.{Which}
use Rattle.skk_disk.specs.declared.which.Which.TheVariants.{A, B}
use Rattle.skk_disk.specs.Image.{other}
use Rattle.skk_journal.specs.declared.live.Live.{Live}
use Rattle.skk_journal.specs.Records.{last_generation, IsGeneration}

-- the generation of the live file, where there is one, has eight bytes
abbrev pub HasGeneration : Option Live → Type 0
HasGeneration None = ⊤
HasGeneration (Some live) = IsGeneration live.generation

-- one generation more, which is 0 behind the greatest
abbrev pub one_more : ℕ → ℕ
one_more generation = if generation == last_generation then 0 else generation + 1

-- one generation less, which is the greatest before 0
abbrev pub one_less : ℕ → ℕ
one_less generation = if generation == 0 then last_generation else generation - 1

-- the generation of a file that is filled beside a live one, or beside none
abbrev pub next_generation : Option Live → ℕ
next_generation None = 1
next_generation (Some live) = one_more live.generation

-- the generation that is written first over a file that might have any: it gives way
abbrev pub generation_before : Option Live → ℕ
generation_before None = 0
generation_before (Some live) = one_less live.generation

-- of two files with these generations the first one counts: its own comes next after the other's; or neither comes
-- next and it is not less
abbrev pub first_counts : ℕ → ℕ → Bool
first_counts a b = if b == one_more a then false else if a == one_more b then true else not (nat_lt a b)

-- a file of one generation counts beside the other file of another one
abbrev pub file_counts : Which → ℕ → ℕ → Bool
file_counts A own others = first_counts own others
file_counts B own others = not (first_counts others own)

-- a live file counts beside the other one of this generation
abbrev pub counts : Live → ℕ → Bool
counts live generation = file_counts live.file live.generation generation

-- the file that is live where there was none: the first one, of the newest version, with the first generation
abbrev pub first_live : ℕ → Live
first_live newest = record { file = A; version = newest; generation = 1 }

-- the file that is live after this one: the other one, of the newest version, with the next generation
abbrev pub live_after : ℕ → Live → Live
live_after newest live =
    record { file = other live.file; version = newest; generation = one_more live.generation }
