-- The orders of readings, keys and stamps.
use Rattle.std.specs.Prelude.{ℕ, Bool, true, false, ◌&&◌, ◌||◌, nat_lt, nat_eq, List, encode_utf8_all}
pub use Rattle.ordered_lists.specs.Orders.{insert_by, sort_by}
use Rattle.ordered_lists.specs.KeyOrders.{bytes_less}
use Rattle.skk_calls.specs.declared.part.Part.{Part}
use Rattle.skk_calls.specs.declared.part.Part.TheVariants.{Nasi, Ari}
use Rattle.skk_calls.specs.Rows.{RowKey, Row}

-- a text is less than another by its bytes
abbrev pub text_less : List ℕ → List ℕ → Bool
text_less text other = bytes_less (encode_utf8_all text) (encode_utf8_all other)

-- a part without okurigana stands before one with it, and within a part the readings decide
abbrev pub less_by_part : Part → Part → Bool → Bool
less_by_part Nasi Ari reading_less = true
less_by_part Ari Nasi reading_less = false
less_by_part part other reading_less = reading_less

-- a key is less than another: by its part, and then by the bytes of its reading
abbrev pub key_less : RowKey → RowKey → Bool
key_less key other = less_by_part key.part other.part (text_less key.reading other.reading)

-- the key of a reading without okurigana
abbrev pub plain_key : List ℕ → RowKey
plain_key reading = record { part = Nasi; reading = reading }

-- a row is less than another by its key
abbrev pub row_less : Row → Row → Bool
row_less row other = key_less row.key other.key

-- a row is newer than another: its stamp is greater, or equal and its reading less
abbrev pub is_newer : Row → Row → Bool
is_newer row other =
    nat_lt other.stamp row.stamp || (nat_eq row.stamp other.stamp && text_less row.key.reading other.key.reading)
