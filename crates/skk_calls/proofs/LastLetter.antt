-- The last character of a reading, and the bytes that it takes.
use Rattle.std.proofs.Common.{◌≡◌, ◌≤◌, ℕ, ◌+◌, ◌-◌, false, nat_le, nat_lt, List, [], ◌∷◌}
use Rattle.std.proofs.Common.{◌∙◌, sym, ap, refl, length, take, drop, encode_utf8, encode_utf8_all, length-append}
use Rattle.std.proofs.Common.{arith}
use Rattle.std.proofs.lemmas.Bool.Decides.{nat_tests}
use Rattle.std.proofs.lemmas.List.{append-nil, take-append-drop, length-take-le}
use Rattle.std.proofs.lemmas.Str.{encode_ascii, encodes-append, length-encode, length-le-encodes}
use Rattle.std.specs.Char.{len_utf8}
use Rattle.skk_text.specs.Text.{byte_len, last_chars}
use Rattle.skk_calls.specs.Rows.{is_letter}

-- two items are no letter
no_letter : (items : List ℕ) → 2 ≤ length items → is_letter items ≡ false
no_letter [] h = absurd (omega arith)
no_letter (c ∷ []) h = absurd (omega arith)
no_letter (c ∷ d ∷ items) h = refl

-- a character beyond ASCII takes two bytes at least
wide_char : (c : ℕ) → 128 ≤ c → 2 ≤ len_utf8 c
wide_char c h = grind arith

-- bytes are a letter where the characters are
pub letter-encoded : (text : List ℕ) → is_letter (encode_utf8_all text) ≡ is_letter text
letter-encoded [] = refl
letter-encoded (c ∷ []) =
    rw append-nil (grind (
      arith,
      nat_tests,
      encode_ascii c,
      length-encode c,
      wide_char c,
      no_letter (encode_utf8 c),
    ))
letter-encoded (c ∷ d ∷ text) =
    no_letter (encode_utf8_all (c ∷ d ∷ text)) (omega (arith, length-le-encodes (c ∷ d ∷ text)))

-- the last character is shorter than the text where that has two
pub last-shorter : (text : List ℕ) → nat_lt (byte_len (last_chars 1 text)) (byte_len text) ≡ nat_le 2 (length text)
last-shorter text =
    grind (
      arith,
      nat_tests,
      total,
      whole,
      length-le-encodes (take (length text - 1) text),
      length-take-le (length text - 1) text,
    )
  where
    total : byte_len text ≡ length (encode_utf8_all (take (length text - 1) text)) + byte_len (last_chars 1 text)
    total =
        ap byte_len (sym (take-append-drop (length text - 1) text))
        ∙ ap length (encodes-append (take (length text - 1) text) (last_chars 1 text))
        ∙ length-append (encode_utf8_all (take (length text - 1) text)) (encode_utf8_all (last_chars 1 text))

    whole : length text - 1 ≡ 0 → byte_len (last_chars 1 text) ≡ byte_len text
    whole none = ap (λ n. byte_len (drop n text)) none
