-- Counts of faults, which rise where a call fails.
use Rattle.std.specs.Prelude.{ℕ, ◌≤◌}
use Rattle.skk_text.specs.Counts.{one_more}

-- a count rose, or stands at its last value
abbrev pub Rose : ℕ → ℕ → Type 0
Rose before after = one_more before ≤ after
