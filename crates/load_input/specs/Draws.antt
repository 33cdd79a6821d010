-- A generator of numbers.
use Rattle.std.specs.Prelude.{ℕ, ◌+◌, ◌*◌, ◌/◌, ◌%◌, ◌^◌}

-- the state behind another
abbrev pub next_state : ℕ → ℕ
next_state state = (6364136223846793005 * state + 1442695040888963407) % 2 ^ 64

-- the number below an end that is drawn at a state
abbrev pub drawn : ℕ → ℕ → ℕ
drawn state end = (state / 2 ^ 33) % end
