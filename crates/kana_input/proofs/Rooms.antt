-- The room for a text with a character behind it, or with more.
use Rattle.std.proofs.Common.{◌≡◌, ℕ, ◌++◌, ◌∷◌, [], None, Some, List, length, nat_le, false, arith}
use Rattle.std.proofs.lemmas.List.{append-nil}
use Rattle.std.specs.Prelude.{encode_utf8}
use Rattle.skk_text.specs.Text.{byte_len}
use Rattle.skk_text.specs.TextLaws.{byte_len-append}
use Rattle.romaji_rules.specs.Pieces.{room_behind}

-- where the text does not fit in, it does not with more behind it
pub lacks : (room : ℕ) (text behind : List ℕ) → room_behind room text ≡ None
    → false ≡ nat_le (byte_len (text ++ behind)) room
lacks room text behind e = grind (arith, e, byte_len-append text behind)

-- where the text fits in, it does with a character behind it where that fits into the room that is left
pub fits : (room left : ℕ) (text : List ℕ) (c : ℕ) → room_behind room text ≡ Some left
    → nat_le (length (encode_utf8 c)) left ≡ nat_le (byte_len (text ++ c ∷ [])) room
fits room left text c e =
    grind (arith, e, byte_len-append text (c ∷ []), append-nil (encode_utf8 c))
