-- Modes, and texts in the kana of a mode.
use Rattle.std.specs.Prelude.{ℕ, Bool, true, false, List}
use Rattle.skk_text.specs.Kana.{in_katakana}
use Rattle.skk_text.specs.declared.mode.Mode.{Mode}
use Rattle.skk_text.specs.declared.mode.Mode.TheVariants.{Hira, Kata, Ascii, Wide}

-- whether a mode writes kana
abbrev pub is_kana : Mode → Bool
is_kana Hira = true
is_kana Kata = true
is_kana Ascii = false
is_kana Wide = false

-- the mode of the other kana, where a mode writes kana
abbrev pub other_kana : Mode → Mode
other_kana Hira = Kata
other_kana Kata = Hira
other_kana Ascii = Ascii
other_kana Wide = Wide

-- a text in the kana of a mode: in katakana in katakana mode, and as it is in every other
abbrev pub in_kana_of : Mode → List ℕ → List ℕ
in_kana_of Hira text = text
in_kana_of Kata text = in_katakana text
in_kana_of Ascii text = text
in_kana_of Wide text = text
