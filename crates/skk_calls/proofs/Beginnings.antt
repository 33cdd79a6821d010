-- How the bytes of a word begin.
use Rattle.std.proofs.Common.{◌≡◌, ◌<◌, ◌≤◌, ℕ, true, false, nat_eq, nat_lt, List, [], ◌∷◌, ◌++◌, encode_utf8}
use Rattle.std.proofs.Common.{encode_utf8_all, length, length-append, refl, sym, ap, arith}
use Rattle.std.specs.List.{list_all, starts_with}
use Rattle.std.proofs.lemmas.Bool.Decides.{nat_tests}
use Rattle.std.proofs.lemmas.Str.{encode_ascii, char_from_byte, length-encode, len_utf8_bounds}

-- a character past ASCII begins with a byte past ASCII
first_byte : (c : ℕ) (bytes : List ℕ) (rest : List ℕ) (b : ℕ) → encode_utf8 c ++ rest ≡ b ∷ bytes → 128 ≤ c → 128 ≤ b
first_byte c bytes rest b e high = grind (arith, char_from_byte (b ∷ bytes) rest c (sym e))

-- the bytes of a text begin with ASCII as its characters do
pub begins_bytes : (prefix text : List ℕ) → list_all (λ c. nat_lt c 128) prefix ≡ true
    → starts_with nat_eq (encode_utf8_all text) prefix ≡ starts_with nat_eq text prefix
begins_bytes [] text ascii = refl
begins_bytes (p ∷ prefix) [] ascii = refl
begins_bytes (p ∷ prefix) (c ∷ text) ascii =
    grind (
      arith,
      nat_tests,
      encode_ascii c,
      begins_bytes prefix text,
      split (encode_utf8 c ++ encode_utf8_all text) refl,
    )
  where
    split : (bytes : List ℕ) → encode_utf8 c ++ encode_utf8_all text ≡ bytes → 128 ≤ c → p < 128
        → starts_with nat_eq (encode_utf8_all (c ∷ text)) (p ∷ prefix) ≡ false
    split [] e high low = absurd (omega (
      arith,
      ap length e,
      length-append (encode_utf8 c) (encode_utf8_all text),
      length-encode c,
      (len_utf8_bounds c).0,
    ))
    split (b ∷ bytes) e high low =
        grind (arith, e, nat_tests, first_byte c bytes (encode_utf8_all text) b e)
