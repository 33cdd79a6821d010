-- Counts of 64 bits, which stand still at their end.
use Rattle.std.specs.Prelude.{ℕ, ◌+◌, ◌-◌, ◌^◌, min}

-- the last value of a count of 64 bits
abbrev pub last_count : ℕ
last_count = 2 ^ 64 - 1

-- a count with one more, which stands still at its last value
abbrev pub one_more : ℕ → ℕ
one_more count = min (count + 1) last_count
