-- Bytes that are no text.
use Rattle.std.proofs.Common.{◌≡◌, ℕ, false, List, arith}
use Rattle.std.specs.Str.{is_utf8, IsUtf8}
use Rattle.std.proofs.lemmas.Str.{IsUtf8-from_is_utf8}

-- the test fails where bytes are no text
pub no-text : (bytes : List ℕ) → ¬ IsUtf8 bytes → is_utf8 bytes ≡ false
no-text bytes none = grind (arith, none, IsUtf8-from_is_utf8 bytes)
