-- The characters of strings.
use Rattle.std.proofs.Common.{◌≡◌, ℕ, String, string_bytes, encode_utf8_all, List, [], ◌∷◌, ◌∙◌, sym}
use Rattle.std.proofs.Common.{ap, refl, length, ◌==◌, ◌||◌, not, arith}
use Rattle.std.specs.declared.alloc.Global.{Global}
use Rattle.std.specs.List.{list_all}
use Rattle.std.specs.Str.{IsUtf8, chars}
use Rattle.std.proofs.lemmas.Str.{length-le-encodes, encodes-chars, encodes_same, IsUtf8-string_bytes}
use Rattle.std.proofs.lemmas.Bool.{ne_eqb}
use Rattle.std.proofs.lemmas.Bool.Decides.{nat_tests}
use Rattle.exact_readers.specs.LackLaws.{bytes_pass}
use Rattle.skk_text.specs.Lists.{is_empty}
use Rattle.word_sets.specs.Strings.{characters}

-- a string whose bytes are those of a text has its characters
pub characters_encoded : (string : String Global) (text : List ℕ) → string_bytes string ≡ encode_utf8_all text
    → characters string ≡ text
characters_encoded string text e =
    encodes_same (characters string) text (encodes-chars (string_bytes string) (IsUtf8-string_bytes string) ∙ e)

-- a text is empty where it has no characters
pub empty_text : (text : List ℕ) → IsUtf8 text → (length text == 0) ≡ is_empty (chars text)
empty_text text valid = by (chars text) (sym (encodes-chars text valid))
  where
    by : (cs : List ℕ) → text ≡ encode_utf8_all cs → (length text == 0) ≡ is_empty cs
    by [] e = rw e refl
    by (c ∷ cs) e = ne_eqb (length text) 0 (λ none. omega (arith, ap length e, length-le-encodes (c ∷ cs)))

-- whether characters end a line is told by the bytes
pub line_ends_are_bytes : (text : List ℕ) → IsUtf8 text
    → list_all (λ c. not (c == 13 || c == 10)) text ≡ list_all (λ c. not (c == 13 || c == 10)) (chars text)
line_ends_are_bytes text valid =
    ap (list_all (λ c. not (c == 13 || c == 10))) (sym (encodes-chars text valid))
    ∙ bytes_pass (λ c. not (c == 13 || c == 10)) (λ byte high. grind (arith, nat_tests, high)) (chars text)
