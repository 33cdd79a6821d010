-- What a session takes of an open reading: its okurigana, and the keys that words are found and learnt under.
use Rattle.std.specs.Prelude.{ℕ, if◌then◌else◌, Option, None, Some, List, []}
use Rattle.std.specs.Char.{is_ascii_digit}
use Rattle.std.specs.List.{list_any}
use Rattle.numeric_entries.specs.Numbers as numeric
use Rattle.skk_calls.specs.Rows.{RowKey}
use Rattle.reading_state.specs.Keys.{key_with}
use Rattle.reading_state.specs.Puts.{BegunOkuri, Reading}

-- the kana of an okurigana that was begun, none where it was not
abbrev pub kana_begun : Option BegunOkuri → List ℕ
kana_begun None = []
kana_begun (Some begun) = begun.text

-- the number key of a reading: with a `#` in the place of each number, and with the letter of its okurigana
abbrev pub number_key_of : Reading → RowKey
number_key_of reading = key_with (numeric.key_of reading.text) reading.okuri

-- a reading as its word is learnt under it: with a `#` in the place of each number
abbrev pub registered_text : Reading → List ℕ
registered_text reading =
    if list_any is_ascii_digit reading.text then numeric.key_of reading.text else reading.text

-- the key that a word is learnt under which is typed for a reading: its number key, where it has numbers
abbrev pub registered_key : Reading → RowKey
registered_key reading = key_with (registered_text reading) reading.okuri
