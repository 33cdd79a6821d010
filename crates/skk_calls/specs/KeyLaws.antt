-- Texts and keys that are the same are equal.
use Rattle.std.proofs.Common.{◌≡◌, ℕ, true, false, List, refl, sym, ap, encode_utf8_all, arith}
use Rattle.std.specs.Str.{bytes_eq}
use Rattle.std.proofs.lemmas.Bool.Decides.{same_from_decides, Decides-like}
use Rattle.std.proofs.lemmas.Slice.Eq.{bytes_eq-Decides}
use Rattle.std.proofs.lemmas.Str.{encodes_same}
use Rattle.skk_calls.specs.declared.part.Part.{Part}
use Rattle.skk_calls.specs.Rows.{RowKey, same_text, same_part, same_key}

-- a text is the same as itself
pub same_itself : (text : List ℕ) → same_text text text ≡ true
same_itself text = (bytes_eq-Decides text text).1 refl

-- texts that are the same are equal
pub same_equal : (text other : List ℕ) → same_text text other ≡ true → text ≡ other
same_equal text other e = (bytes_eq-Decides text other).0 e

-- the order of two texts that are compared does not matter
pub same_other : (text other : List ℕ) → same_text text other ≡ same_text other text
same_other text other =
    same_from_decides (same_text text other) (same_text other text) (bytes_eq-Decides text other)
    (Decides-like (same_text other text) sym sym (bytes_eq-Decides other text))

-- texts are the same where their bytes are
pub same_encoded : (text other : List ℕ)
    → bytes_eq (encode_utf8_all text) (encode_utf8_all other) ≡ same_text text other
same_encoded text other =
    same_from_decides (bytes_eq (encode_utf8_all text) (encode_utf8_all other)) (same_text text other)
    (bytes_eq-Decides (encode_utf8_all text) (encode_utf8_all other))
    (Decides-like (same_text text other) (λ e. ap encode_utf8_all e) (λ e. encodes_same text other e)
    (bytes_eq-Decides text other))

-- a part is the same as itself
pub same_part_itself : (part : Part) → same_part part part ≡ true
same_part_itself part = grind arith

-- parts that are the same are equal
pub same_part_equal : (part other : Part) → same_part part other ≡ true → part ≡ other
same_part_equal part other e = grind arith

-- a key is the same as itself
pub same_key_itself : (key : RowKey) → same_key key key ≡ true
same_key_itself key = grind (arith, same_part_itself key.part, same_itself key.reading)

-- keys that are the same are equal
pub same_key_equal : (key other : RowKey) → same_key key other ≡ true → key ≡ other
same_key_equal key other e =
    grind (arith, same_part_equal key.part other.part, same_equal key.reading other.reading)

-- keys that differ differ in either order
pub same_key_other : (key other : RowKey) → same_key key other ≡ false → same_key other key ≡ false
same_key_other key other e = grind (arith, same_key_equal other key, same_key_itself key)
