-- What contracts say of texts, which they see as lists of characters.
use Rattle.std.specs.Prelude.{ℕ, ◌-◌, List, length, take, drop, encode_utf8_all}

-- how many bytes a text takes in UTF-8
abbrev pub byte_len : List ℕ → ℕ
byte_len text = length (encode_utf8_all text)

-- the last characters of a text, at most so many as the count says
abbrev pub last_chars : ℕ → List ℕ → List ℕ
last_chars count text = drop (length text - count) text

-- a text without its last character, where it has one
abbrev pub without_last : List ℕ → List ℕ
without_last text = take (length text - 1) text
