-- What a file may be after a stop, by what was done to it since its last sync.
use Rattle.std.specs.Prelude.{⊤, ℕ, ◌+◌, ◌<◌, ◌≤◌, min, max, List, [], ◌∷◌, length, take}
use Rattle.skk_disk.specs.Steps.{placed, SameByte, Range, IsOutside}

-- what a read gives of a file, and since its last sync its smallest length, its greatest one and the ranges written
pub record FileState : Type 0 where
  pub seen : List ℕ
  pub smallest : ℕ
  pub greatest : ℕ
  pub written : List Range

-- a place is in none of these ranges
abbrev pub IsUntouched : ℕ → List Range → Type 0
IsUntouched place [] = ⊤
IsUntouched place (range ∷ ranges) = IsOutside range place × IsUntouched place ranges

-- a stop may leave this of a file: any length between the two, and below the smallest one all bytes not written
pub record MayLeave (file : FileState) (left : List ℕ) : Type 0 where
  pub at_least : file.smallest ≤ length left
  pub at_most : length left ≤ file.greatest
  pub kept : (place : ℕ) → place < file.smallest → IsUntouched place file.written → SameByte place file.seen left

-- an empty file
abbrev pub empty_file : FileState
empty_file = record { seen = []; smallest = 0; greatest = 0; written = [] }

-- a file after a write of bytes at a place: a read gives them, and until a sync a stop may leave any part of it
abbrev pub after_write : ℕ → List ℕ → FileState → FileState
after_write at bytes file = record {
  seen = placed at bytes file.seen;
  smallest = file.smallest;
  greatest = max file.greatest (at + length bytes);
  written = record { at = at; count = length bytes } ∷ file.written;
}

-- a file after a failed write of so many bytes at a place: a read gives what it gave, and until a sync a stop may leave
-- any part of it
abbrev pub torn_write : ℕ → ℕ → FileState → FileState
torn_write at count file = record {
  seen = file.seen;
  smallest = file.smallest;
  greatest = max file.greatest (at + count);
  written = record { at = at; count = count } ∷ file.written;
}

-- a file after a cut to a length: a read gives what is below it, and until a sync a stop may leave any part of it
abbrev pub after_cut : ℕ → FileState → FileState
after_cut len file = record {
  seen = take len file.seen;
  smallest = min file.smallest len;
  greatest = file.greatest;
  written = file.written;
}

-- a file after a failed cut to a length: a read gives what it gave, and until a sync a stop may leave any part of it
abbrev pub torn_cut : ℕ → FileState → FileState
torn_cut len file = record {
  seen = file.seen;
  smallest = min file.smallest len;
  greatest = file.greatest;
  written = file.written;
}

-- a file after a sync
abbrev pub after_sync : FileState → FileState
after_sync file =
    record { seen = file.seen; smallest = length file.seen; greatest = length file.seen; written = [] }

-- what a read gives has a length between the two
pub record IsSound (file : FileState) : Type 0 where
  pub at_least : file.smallest ≤ length file.seen
  pub at_most : length file.seen ≤ file.greatest
