-- Where the bytes of a text lie.
use Rattle.std.specs.Prelude.{ℕ, List, string_bytes}
use Rattle.std.specs.Str.{IsUtf8}
use Rattle.skk_text.specs.declared.content.Held.{Held}
use Rattle.skk_text.specs.declared.content.Held.TheVariants.{Short, Long}

-- the bytes that are held
abbrev pub bytes_held : Held → List ℕ
bytes_held (Short text alloc) = text.bytes
bytes_held (Long text) = string_bytes text

-- they are UTF-8
abbrev pub IsHeldUtf8 : Held → Type 0
IsHeldUtf8 held = IsUtf8 (bytes_held held)
