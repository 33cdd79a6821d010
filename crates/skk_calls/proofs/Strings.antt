-- The characters of strings.
use Rattle.std.proofs.Common.{◌≡◌, ◌∙◌, ◌==◌, ℕ, List, length, encode_utf8_all, sym, ap}
use Rattle.std.specs.Str.{IsUtf8, bytes_eq, chars}
use Rattle.std.proofs.lemmas.Grind.{common_steps}
use Rattle.std.proofs.lemmas.Str.{chars-nil, encodes-chars}
use Rattle.skk_text.specs.Lists.{is_empty}
use Rattle.skk_text.specs.TextLaws.{byte_len-empty}
use Rattle.skk_calls.specs.KeyLaws.{same_encoded}
use Rattle.skk_calls.specs.Rows.{same_text}

-- a string is empty where it has no characters
pub empty_text : (text : List ℕ) → IsUtf8 text → (length text == 0) ≡ is_empty (chars text)
empty_text text valid =
    ap (λ bytes. length bytes == 0) (sym (encodes-chars text valid)) ∙ byte_len-empty (chars text)

-- strings are the same where their characters are
pub same_chars : (text other : List ℕ) → IsUtf8 text → IsUtf8 other
    → bytes_eq text other ≡ same_text (chars text) (chars other)
same_chars text other valid other_valid =
    ap (λ bytes. bytes_eq bytes other) (sym (encodes-chars text valid))
    ∙ ap (λ bytes. bytes_eq (encode_utf8_all (chars text)) bytes) (sym (encodes-chars other other_valid))
    ∙ same_encoded (chars text) (chars other)

-- the bytes of characters
pub ruleset bytes = (common_steps, encodes-chars)

-- and no characters
pub ruleset no_text = (common_steps, chars-nil)
