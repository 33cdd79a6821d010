-- What holds of the lengths of texts, and of their characters before and behind an ASCII byte.
use Rattle.std.specs.Prelude.{◌≡◌, ◌<◌, ℕ, ◌+◌, ◌==◌, List, [], ◌∷◌, ◌++◌, length, take, drop, get_or, encode_utf8_all}
use lib.Utf8.{encode}
use Rattle.std.specs.Char.{IsScalar}
use Rattle.std.specs.Str.{chars, IsUtf8}
use Rattle.std.proofs.Common.{◌∙◌, sym, ap, refl, arith, encode_utf8, append-nil, length-append}
use Rattle.std.proofs.lemmas.Bool.{ne_eqb}
use Rattle.std.proofs.lemmas.List.{take-append-drop, at_drop_more}
use Rattle.std.proofs.lemmas.Str.{encodes-append, chars-append, chars_past_char, encode_ascii, length-le-encodes}
use Rattle.std.proofs.lemmas.Str.{IsCharBoundary-before_ascii, IsUtf8-drop, IsUtf8-encode, IsUtf8-take, chars-nil}
use Rattle.skk_text.specs.Lists.{is_empty}
use Rattle.skk_text.specs.Text.{byte_len}

-- a text is empty where it has no bytes
pub byte_len-empty : (text : List ℕ) → (byte_len text == 0) ≡ is_empty text
byte_len-empty [] = refl
byte_len-empty (c ∷ text) = ne_eqb (byte_len (c ∷ text)) 0 (λ e. omega (arith, length-le-encodes (c ∷ text)))

-- a text that is put behind another adds its bytes to those of the other
pub byte_len-append : (text behind : List ℕ) → byte_len (text ++ behind) ≡ byte_len text + byte_len behind
byte_len-append text behind =
    ap length (encodes-append text behind) ∙ length-append (encode_utf8_all text) (encode_utf8_all behind)

-- the characters of a text are those before an ASCII byte, that byte, and those behind it
pub chars-split : (text : List ℕ) (place : ℕ) → IsUtf8 text → place < length text → get_or text place 0 < 128
    → IsUtf8 (take place text)
    × (chars text ≡ chars (take place text) ++ get_or text place 0 ∷ chars (drop (place + 1) text))
chars-split text place utf8 within small =
    let byte = get_or text place 0 in
    let front = take place text in
    let behind = drop (place + 1) text in
    let cut = IsCharBoundary-before_ascii text place within small in
    let front_utf8 = IsUtf8-take text place utf8 cut in
    let rest : drop place text ≡ encode byte ++ behind =
    at_drop_more (λ xs. xs) text place 0 within ∙ ap (λ bs. bs ++ behind) (sym (encode_ascii byte small)) in
    let rest_chars : chars (drop place text) ≡ byte ∷ chars behind =
    chars_past_char (drop place text) behind byte (IsUtf8-drop text place utf8 cut) rest in (
      front_utf8,
      ap chars (sym (take-append-drop place text)) ∙ chars-append front (drop place text) front_utf8
          ∙ ap (λ cs. chars front ++ cs) rest_chars,
    )

-- a character alone
pub chars-encode : (c : ℕ) → IsScalar c → chars (encode_utf8 c) ≡ c ∷ []
chars-encode c scalar =
    chars_past_char (encode_utf8 c) [] c (IsUtf8-encode c scalar) (sym (append-nil (encode_utf8 c)))
    ∙ ap (λ cs. c ∷ cs) chars-nil

-- and behind others
pub chars-push : (bytes : List ℕ) (c : ℕ) → IsUtf8 bytes → IsScalar c
    → chars (bytes ++ encode_utf8 c) ≡ chars bytes ++ c ∷ []
chars-push bytes c utf8 scalar =
    chars-append bytes (encode_utf8 c) utf8 ∙ ap (λ cs. chars bytes ++ cs) (chars-encode c scalar)
