-- Numbers in bytes, the least byte first.
use Rattle.std.specs.Prelude.{◌≡◌, ◌^◌, ◌<◌, ◌&&◌, ℕ, Bool, nat_le, nat_lt, if◌then◌else◌, Option, None, Some, List}
use Rattle.std.specs.Prelude.{length, take, drop}
use Rattle.std.specs.Int.{Width, byte_len, to_le_bytes, from_le_bytes}
use Rattle.std.specs.List.{list_all}
use Rattle.exact_readers.specs.Formats.{Format}

-- each token is a byte
abbrev pub are_bytes : List ℕ → Bool
are_bytes tokens = list_all (λ b. nat_lt b 256) tokens

-- the bytes of a number of a width
unfoldable pub number_bytes : Width → ℕ → List ℕ
number_bytes width n = to_le_bytes width n

-- the number of as many bytes as a width has
unfoldable pub number_of : Width → List ℕ → ℕ
number_of width bytes = from_le_bytes width bytes

-- the number at the front of bytes, and what stands behind it
unfoldable pub number_step : Width → List ℕ → Option (ℕ × List ℕ)
number_step width tokens =
    if nat_le (byte_len width) (length tokens) && are_bytes (take (byte_len width) tokens)
    then Some (number_of width (take (byte_len width) tokens), drop (byte_len width) tokens)
    else None

-- a number of a width in its bytes
abbrev pub number : Width → Format ℕ ℕ
number width = record {
  Spells = λ n tokens. (n < 256 ^ byte_len width) × (tokens ≡ number_bytes width n);
  step = number_step width;
}
