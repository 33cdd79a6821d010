-- How long texts are, as far as a number of 64 bits can tell.
use Rattle.std.specs.Prelude.{ℕ, min, List}
use Rattle.skk_text.specs.Counts.{last_count}
use Rattle.skk_text.specs.Text.{byte_len}

-- how many bytes a text has, or the last number where it has more
abbrev pub told_len : List ℕ → ℕ
told_len text = min (byte_len text) last_count
