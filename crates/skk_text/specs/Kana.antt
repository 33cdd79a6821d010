-- The two kana and the wide forms, character by character.
use Rattle.std.specs.Prelude.{ℕ, ◌+◌, ◌-◌, Bool, ◌&&◌, ◌||◌, ◌==◌, nat_le, if◌then◌else◌, List, map}

-- whether a character is a hiragana that has a katakana: ぁ to ゖ, and the iteration marks ゝ and ゞ
abbrev pub is_hiragana : ℕ → Bool
is_hiragana c = (nat_le 0x3041 c && nat_le c 0x3096) || (c == 0x309D || c == 0x309E)

-- whether a character is a katakana that has a hiragana: ァ to ヶ, and the iteration marks ヽ and ヾ
abbrev pub is_katakana : ℕ → Bool
is_katakana c = (nat_le 0x30A1 c && nat_le c 0x30F6) || (c == 0x30FD || c == 0x30FE)

-- how far the katakana of a hiragana is behind it in Unicode
abbrev pub kana_distance : ℕ
kana_distance = 0x60

-- a character in katakana, where it is a hiragana that has one
abbrev pub katakana : ℕ → ℕ
katakana c = if is_hiragana c then c + kana_distance else c

-- a character in hiragana, where it is a katakana that has one
abbrev pub hiragana : ℕ → ℕ
hiragana c = if is_katakana c then c - kana_distance else c

-- a text with each of its characters in katakana
abbrev pub in_katakana : List ℕ → List ℕ
in_katakana text = map katakana text

-- a text with each of its characters in hiragana
abbrev pub in_hiragana : List ℕ → List ℕ
in_hiragana text = map hiragana text

-- the wide space of Unicode, U+3000
abbrev pub wide_space : ℕ
wide_space = 0x3000

-- how far the wide form of an ASCII character is behind it in Unicode
abbrev pub wide_distance : ℕ
wide_distance = 0xFEE0

-- a character in its wide form: the wide space for the space, `！` to `～` for `!` to `~`, and itself for any other
abbrev pub wide : ℕ → ℕ
wide c =
    if c == 0x20 then wide_space
    else if nat_le 0x21 c && nat_le c 0x7E then c + wide_distance
    else c
