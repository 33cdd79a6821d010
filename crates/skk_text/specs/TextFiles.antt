-- Files of text: their bytes are not too many, and are UTF-8.
use Rattle.std.specs.Prelude.{◌≡◌, ◌<◌, ◌≤◌, ℕ, List, length}
use Rattle.std.specs.Str.{IsUtf8}
use Rattle.std.specs.Str.Lossy.{utf8_valid_len}
use Rattle.skk_text.specs.declared.text_file.TextFault.{TextFault}
use Rattle.skk_text.specs.declared.text_file.TextFault.TheVariants.{TooLong, NotUtf8}

-- bytes are no more than the limit, and UTF-8
abbrev pub IsTextWithin : ℕ → List ℕ → Type 0
IsTextWithin limit bytes = (length bytes ≤ limit) × IsUtf8 bytes

-- why bytes are no text within a limit: they are more, which is told first, or they are not UTF-8, and their longest
-- prefix that is ends at this byte
abbrev pub IsTextFault : ℕ → List ℕ → TextFault → Type 0
IsTextFault limit bytes (TooLong count) = (limit < length bytes) × (count ≡ length bytes)
IsTextFault limit bytes (NotUtf8 at) = (length bytes ≤ limit) × (¬ IsUtf8 bytes) × (at ≡ utf8_valid_len bytes)
