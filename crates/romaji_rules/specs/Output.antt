-- What comes out of the rules, in both kana.
use Rattle.std.specs.Prelude.{ℕ, List, [], ◌∷◌, ◌++◌}
use Rattle.skk_text.specs.Kana.{in_katakana}
use Rattle.romaji_rules.specs.declared.out.Out.{Out}

-- the output of nothing, in both kana
abbrev pub nothing : Out
nothing = record { hira = []; kata = [] }

-- the output of a character as itself, in both kana
abbrev pub itself : ℕ → Out
itself c = record { hira = c ∷ []; kata = c ∷ [] }

-- the output of a hiragana text, and the same in katakana
abbrev pub of_hiragana : List ℕ → Out
of_hiragana text = record { hira = text; kata = in_katakana text }

-- one output with another behind it
abbrev pub appended : Out → Out → Out
appended first second = record { hira = first.hira ++ second.hira; kata = first.kata ++ second.kata }
