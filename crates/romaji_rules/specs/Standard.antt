-- The standard table, with a row for each of what stands before the vowels a, i, u, e and o.
use Rattle.std.specs.Prelude.{ℕ, List, [], ◌∷◌, ◌++◌, map, codes}
use Prim.Native.String.{String}
use Rattle.romaji_rules.specs.declared.rule.Rule.{Rule}
use Rattle.romaji_rules.specs.Output.{of_hiragana}

-- the rule of an input that gives a kana text and leaves nothing pending
abbrev pub rule : List ℕ → List ℕ → Rule
rule input kana = record { input = input; next = []; out = of_hiragana kana }

-- the rules of a row: each vowel behind what stands before it gives the ending of its column behind the stem
abbrev pub row_rules : List ℕ → List ℕ → List ℕ → List (List ℕ) → List Rule
row_rules before stem [] endings = []
row_rules before stem (vowel ∷ vowels) [] = []
row_rules before stem (vowel ∷ vowels) (ending ∷ endings) =
    rule (before ++ vowel ∷ []) (stem ++ ending) ∷ row_rules before stem vowels endings

-- the row of the table of what stands before the vowels, with the outputs for a, i, u, e and o
abbrev pub row : String → String → String → String → String → String → List Rule
row before a i u e o =
    row_rules (codes before) [] (codes "aiueo") (codes a ∷ codes i ∷ codes u ∷ codes e ∷ codes o ∷ [])

-- the rows of the table whose outputs stand in it one by one
abbrev pub vowel_rows : List Rule
vowel_rows =
    row "" "あ" "い" "う" "え" "お"
    ++ row "k" "か" "き" "く" "け" "こ"
    ++ row "s" "さ" "し" "す" "せ" "そ"
    ++ row "t" "た" "ち" "つ" "て" "と"
    ++ row "n" "な" "に" "ぬ" "ね" "の"
    ++ row "h" "は" "ひ" "ふ" "へ" "ほ"
    ++ row "m" "ま" "み" "む" "め" "も"
    ++ row "y" "や" "い" "ゆ" "いぇ" "よ"
    ++ row "r" "ら" "り" "る" "れ" "ろ"
    ++ row "w" "わ" "うぃ" "う" "うぇ" "を"
    ++ row "g" "が" "ぎ" "ぐ" "げ" "ご"
    ++ row "z" "ざ" "じ" "ず" "ぜ" "ぞ"
    ++ row "d" "だ" "ぢ" "づ" "で" "ど"
    ++ row "b" "ば" "び" "ぶ" "べ" "ぼ"
    ++ row "p" "ぱ" "ぴ" "ぷ" "ぺ" "ぽ"
    ++ row "f" "ふぁ" "ふぃ" "ふ" "ふぇ" "ふぉ"
    ++ row "j" "じゃ" "じ" "じゅ" "じぇ" "じょ"
    ++ row "v" "ゔぁ" "ゔぃ" "ゔ" "ゔぇ" "ゔぉ"
    ++ row "sh" "しゃ" "し" "しゅ" "しぇ" "しょ"
    ++ row "ch" "ちゃ" "ち" "ちゅ" "ちぇ" "ちょ"
    ++ row "ts" "つぁ" "つぃ" "つ" "つぇ" "つぉ"
    ++ row "th" "てぁ" "てぃ" "てゅ" "てぇ" "てょ"
    ++ row "dh" "でゃ" "でぃ" "でゅ" "でぇ" "でょ"
    ++ row "fy" "ふゃ" "ふぃ" "ふゅ" "ふぇ" "ふょ"
    ++ row "x" "ぁ" "ぃ" "ぅ" "ぇ" "ぉ"

-- the contracted row of what stands before the vowels: a kana, followed by the small ゃ, ぃ, ゅ, ぇ and ょ
abbrev pub contracted : String → String → List Rule
contracted before kana =
    row_rules (codes before) (codes kana) (codes "aiueo")
    (codes "ゃ" ∷ codes "ぃ" ∷ codes "ゅ" ∷ codes "ぇ" ∷ codes "ょ" ∷ [])

-- the rows of the table that are contracted
abbrev pub contracted_rows : List Rule
contracted_rows =
    contracted "ky" "き"
    ++ contracted "sy" "し"
    ++ contracted "ty" "ち"
    ++ contracted "cy" "ち"
    ++ contracted "ny" "に"
    ++ contracted "hy" "ひ"
    ++ contracted "my" "み"
    ++ contracted "ry" "り"
    ++ contracted "gy" "ぎ"
    ++ contracted "zy" "じ"
    ++ contracted "jy" "じ"
    ++ contracted "dy" "ぢ"
    ++ contracted "by" "び"
    ++ contracted "py" "ぴ"

-- the one rule of an input and its kana
abbrev pub single : String → String → List Rule
single input kana = rule (codes input) (codes kana) ∷ []

-- the rules of the table that stand in no row
abbrev pub single_rules : List Rule
single_rules =
    single "n" "ん"
    ++ single "nn" "ん"
    ++ single "n'" "ん"
    ++ single "xya" "ゃ"
    ++ single "xyu" "ゅ"
    ++ single "xyo" "ょ"
    ++ single "xtu" "っ"
    ++ single "xtsu" "っ"
    ++ single "xwa" "ゎ"
    ++ single "xwi" "ゐ"
    ++ single "xwe" "ゑ"
    ++ single "xka" "ゕ"
    ++ single "xke" "ゖ"
    ++ single "-" "ー"
    ++ single "," "、"
    ++ single "." "。"
    ++ single "[" "「"
    ++ single "]" "」"
    ++ single "z/" "・"
    ++ single "z." "…"
    ++ single "zh" "←"
    ++ single "zj" "↓"
    ++ single "zk" "↑"
    ++ single "zl" "→"
    ++ single "z[" "『"
    ++ single "z]" "』"

-- the rule of a doubled consonant, which gives っ and leaves its second letter pending
abbrev pub doubled : ℕ → Rule
doubled c = record { input = c ∷ c ∷ []; next = c ∷ []; out = of_hiragana (codes "っ") }

-- the rules of the doubled consonants
abbrev pub doubled_rules : List Rule
doubled_rules = map doubled (codes "bcdfghjkprstvwxyz")

-- the rules of the whole standard table
abbrev pub standard : List Rule
standard = vowel_rows ++ contracted_rows ++ single_rules ++ doubled_rules
