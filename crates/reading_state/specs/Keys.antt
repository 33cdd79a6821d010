-- The key and the okurigana that an open reading is converted by.
use Rattle.std.specs.Prelude.{ℕ, if◌then◌else◌, Option, None, Some, List, [], ◌∷◌, ◌++◌}
use Rattle.skk_text.specs.Lists.{is_empty}
use Rattle.skk_calls.specs.declared.part.Part.TheVariants.{Nasi, Ari}
use Rattle.skk_calls.specs.Rows.{RowKey}
use Rattle.reading_state.specs.Puts.{BegunOkuri, Reading}

-- the key of a text with an okurigana begun behind it, which adds its letter, or without
abbrev pub key_with : List ℕ → Option BegunOkuri → RowKey
key_with text None = record { part = Nasi; reading = text }
key_with text (Some begun) = record { part = Ari; reading = text ++ begun.letter ∷ [] }

-- the key that a reading is converted by
abbrev pub key_of : Reading → RowKey
key_of reading = key_with reading.text reading.okuri

-- the kana of an okurigana that was begun, where it has some
abbrev pub kana_of : Option BegunOkuri → Option (List ℕ)
kana_of None = None
kana_of (Some begun) = if is_empty begun.text then None else Some begun.text

-- the okurigana that a reading is converted by
abbrev pub okuri_of : Reading → Option (List ℕ)
okuri_of reading = kana_of reading.okuri
