-- The orders of texts and of keys, by which of two that differ one is less.
use Rattle.std.proofs.Common.{◌≡◌, ℕ, true, false, List, ◌∙◌, encode_utf8_all}
use Rattle.std.proofs.Common.{arith}
use Rattle.std.specs.Cmp.{IsStrictWeakOrder}
pub use Rattle.ordered_lists.specs.OrderLaws.{apart, holds_moved, not_itself, order_read, sort_ascends, sort_moves}
pub use Rattle.ordered_lists.specs.OrderLaws.{sort_stays, sorted_once, sorted_read}
use Rattle.ordered_lists.specs.KeyOrders.{bytes_apart, bytes_less, bytes_order}
use Rattle.ordered_lists.specs.OrderLaws.{less_trans}
use Rattle.ordered_lists.specs.Orders.{Order}
use Rattle.skk_calls.specs.KeyLaws.{same_encoded, same_key_equal}
use Rattle.skk_calls.specs.Orders.{text_less, key_less}
use Rattle.skk_calls.specs.Rows.{RowKey, same_text, same_key}

-- the order of texts by their bytes is one
pub text_order : IsStrictWeakOrder text_less
text_order = order_read encode_utf8_all bytes_less bytes_order

-- of two texts that differ one is less
pub texts_apart : (text other : List ℕ) → same_text text other ≡ false → apart text_less text other ≡ true
texts_apart text other differ =
    bytes_apart (encode_utf8_all text) (encode_utf8_all other) (same_encoded text other ∙ differ)

-- the order of keys is one
pub key_order : IsStrictWeakOrder key_less
key_order = record {
  one_way = λ key other e. grind (arith, text_order.one_way key.reading other.reading);
  chain = λ key next last e f. grind (arith, text_order.chain key.reading next.reading last.reading);
}

-- of two keys that differ one is less
pub keys_apart : (key other : RowKey) → same_key key other ≡ false → apart key_less key other ≡ true
keys_apart key other differ = grind (arith, texts_apart key.reading other.reading)

-- the order of keys, by which rows stand in order
abbrev pub row_keys : Order RowKey
row_keys = record {
  less = key_less;
  same = same_key;
  irreflexive = not_itself key_less key_order;
  transitive = less_trans key_less key_order;
  apart = keys_apart;
  equal = same_key_equal;
}
