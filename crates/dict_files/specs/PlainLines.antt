-- Lines that plainly spell a row.
use Rattle.std.specs.Prelude.{ℕ, ◌==◌, ◌||◌, ◌&&◌, Bool, false, not, nat_le, if◌then◌else◌, Option, None, Some}
use Rattle.std.specs.Prelude.{List, [], ◌∷◌}
use Rattle.skk_text.specs.Text.{byte_len}
use Rattle.skk_calls.specs.declared.part.Part.TheVariants.{Nasi}
use Rattle.skk_calls.specs.Rows.{is_row_key, word_limit}
use Rattle.exact_readers.specs.Cuts.{cut}
use Rattle.exact_readers.specs.Formats.{past, then_at}
use Rattle.exact_readers.specs.Lacking.{lacks}
use Rattle.dict_format.specs.Reading.{is_space}
use Rattle.dict_format.specs.Reasons.{ends_in_slash}

-- the text behind the first slash of a line begins with a word: there is one, and it is not empty
abbrev pub begins_word : List ℕ → Bool
begins_word [] = false
begins_word (c ∷ text) = not (c == 0x2F || c == 0x3B)

-- a line is plain which begins with a reading, a space and a slash, with this behind it: it is no longer than a word
-- may be, and holds no parenthesis, the reading is valid without okurigana, and what is behind begins with a word and
-- ends in a slash
abbrev pub is_plain : List ℕ → List ℕ → List ℕ → Bool
is_plain line reading behind =
    nat_le (byte_len line) word_limit && (lacks 0x28 line && (is_row_key (record { part = Nasi; reading = reading })
    && (begins_word behind && ends_in_slash behind)))

-- the reading of a line before its first space, with this behind that, where the line is plain
abbrev pub reading_if_plain : List ℕ → List ℕ × List ℕ → Option (List ℕ)
reading_if_plain line (reading, rest) =
    then_at (past (0x2F ∷ []) rest) (λ behind. if is_plain line reading behind then Some reading else None)

-- the reading of a line that is plain
abbrev pub plain_reading : List ℕ → Option (List ℕ)
plain_reading line = then_at (cut is_space line) (reading_if_plain line)
