-- The definitions at small examples, each worked out by hand.
use Rattle.std.proofs.Common.{◌≡◌, ℕ, None, Some, List, [], ◌∷◌, ◌++◌, refl, map, codes}
use lib.Utf8.{encode}
use Prim.Native.String.{String}
use Rattle.skk_text.specs.Characters.{code}
use Rattle.skk_text.specs.declared.key.Key.{Key}
use Rattle.skk_text.specs.declared.key.Key.TheVariants.{Char, Cj, Cg, Bs, Ret, Tab, Undo}
use Rattle.skk_text.specs.declared.mode.Mode.{Mode}
use Rattle.skk_text.specs.declared.mode.Mode.TheVariants.{Hira, Kata, Ascii, Wide}
use Rattle.romaji_rules.specs.declared.rule.Rule.{Rule}
use Rattle.romaji_rules.specs.Standard.{rule}
use Rattle.kana_input.specs.Plain.{in_kana, char_in_mode, plain_step, new_plain}
use Rattle.kana_input.specs.declared.plain.PlainThen.{PlainThen}
use Rattle.kana_input.specs.declared.plain.PlainThen.TheVariants.{Stay, DeleteLast, Newline, OpenReading, OpenAbbrev}
use Rattle.kana_input.specs.declared.plain.PlainThen.TheVariants.{Cancel, AskUndo}

-- a few rules
abbrev table : List Rule
table =
    rule (codes "a") (codes "あ") ∷ rule (codes "ka") (codes "か") ∷ rule (codes "n") (codes "ん")
    ∷ rule (codes "na") (codes "な") ∷ rule (codes "zl") (codes "→") ∷ rule (codes "z/") (codes "・") ∷ []

-- the name of what a key does besides
abbrev word_of : PlainThen → List ℕ
word_of Stay = []
word_of DeleteLast = codes "delete"
word_of Newline = codes "newline"
word_of (OpenReading None) = codes "open"
word_of (OpenReading (Some letter)) = codes "open " ++ letter ∷ []
word_of OpenAbbrev = codes "abbreviation"
word_of Cancel = codes "cancel"
word_of AskUndo = codes "undo"

-- the name of a mode
abbrev mode_named : Mode → List ℕ
mode_named Hira = codes "hira"
mode_named Kata = codes "kata"
mode_named Ascii = codes "ascii"
mode_named Wide = codes "wide"

-- a key's step as its mode, what it inserts, what is pending, and what it does besides
abbrev step : Mode → String → Key → List ℕ
step mode pending key =
    let after = plain_step table (record { mode = mode; pending = codes pending }) key in
    mode_named after.plain.mode ++ code "|" ∷ after.done.insert ++ code "|" ∷ after.plain.pending ++ code "|"
    ∷ word_of after.done.then

-- the steps of the characters of a text
abbrev steps : Mode → String → String → List (List ℕ)
steps mode pending characters = map (λ c. step mode pending (Char c)) (codes characters)

-- the steps of the keys with names
abbrev named_steps : Mode → String → List (List ℕ)
named_steps mode pending = map (step mode pending) (Cj ∷ Cg ∷ Bs ∷ Ret ∷ Tab ∷ Undo ∷ [])

begun : new_plain ≡ record { mode = Hira; pending = [] }
begun = refl

-- each character with nothing pending, and at both ends of the upper-case letters
hiragana : steps Hira "" " qlLQ/a1kAZ@[" ≡
    codes "hira| ||" ∷ codes "kata|||" ∷ codes "ascii|||" ∷ codes "wide|||" ∷ codes "hira|||open"
    ∷ codes "hira|||abbreviation" ∷ codes "hira|あ||"
    ∷ codes "hira|1||" ∷ codes "hira||k|" ∷ codes "hira|||open a" ∷ codes "hira|||open z" ∷ codes "hira|@||"
    ∷ codes "hira|[||" ∷ []
unfolding encode
hiragana = refl

hiragana_names : named_steps Hira "" ≡
    codes "hira|||" ∷ codes "hira|||cancel" ∷ codes "hira|||delete" ∷ codes "hira|||newline" ∷ codes "hira|||"
    ∷ codes "hira|||undo" ∷ []
unfolding encode
hiragana_names = refl

-- each character with an input pending that goes on
pending : steps Hira "n" " qlLQ/a1kA" ≡
    codes "hira|ん ||" ∷ codes "kata|ん||" ∷ codes "ascii|ん||" ∷ codes "wide|ん||" ∷ codes "hira|ん||open"
    ∷ codes "hira|ん||abbreviation" ∷ codes "hira|な||"
    ∷ codes "hira|ん1||" ∷ codes "hira|ん|k|" ∷ codes "hira|ん||open a" ∷ []
unfolding encode
pending = refl

pending_names : named_steps Hira "n" ≡
    codes "hira|ん||" ∷ codes "hira|||" ∷ codes "hira|||" ∷ codes "hira|ん||newline" ∷ codes "hira||n|"
    ∷ codes "hira||n|undo" ∷ []
unfolding encode
pending_names = refl

-- letters pending that are no input, and keys that go on with them
unfinished : steps Hira "z" " ql/" ≡ codes "hira| ||" ∷ codes "kata|||" ∷ codes "hira|→||" ∷ codes "hira|・||" ∷ []
unfolding encode
unfinished = refl

two_pending : step Hira "zx" Bs ≡ codes "hira||z|"
unfolding encode
two_pending = refl

katakana : steps Kata "n" " qla" ≡ codes "kata|ン ||" ∷ codes "hira|ン||" ∷ codes "ascii|ン||" ∷ codes "kata|ナ||" ∷ []
unfolding encode
katakana = refl

katakana_names : named_steps Kata "n" ≡
    codes "kata|ン||" ∷ codes "kata|||" ∷ codes "kata|||" ∷ codes "kata|ン||newline" ∷ codes "kata||n|"
    ∷ codes "kata||n|undo" ∷ []
unfolding encode
katakana_names = refl

ascii : steps Ascii "" " qL/A"
    ≡ codes "ascii| ||" ∷ codes "ascii|q||" ∷ codes "ascii|L||" ∷ codes "ascii|/||" ∷ codes "ascii|A||" ∷ []
unfolding encode
ascii = refl

wide : steps Wide "" " qA" ≡ (codes "wide|" ++ 0x3000 ∷ codes "||") ∷ codes "wide|ｑ||" ∷ codes "wide|Ａ||" ∷ []
unfolding encode
wide = refl

ascii_names :
    (named_steps Ascii "" ≡ codes "hira|||" ∷ codes "ascii|||" ∷ codes "ascii|||delete" ∷ codes "ascii|||newline"
    ∷ codes "ascii|||" ∷ codes "ascii|||undo" ∷ [])
    × (named_steps Wide "" ≡ codes "hira|||" ∷ codes "wide|||" ∷ codes "wide|||delete" ∷ codes "wide|||newline"
    ∷ codes "wide|||" ∷ codes "wide|||undo" ∷ [])
unfolding encode
ascii_names = (refl, refl)

-- an ASCII mode with letters pending, which no key leads to, gives them out in hiragana
ascii_pending : named_steps Wide "n" ≡
    codes "hira||n|" ∷ codes "wide||n|" ∷ codes "wide||n|delete" ∷ codes "wide|ん||newline" ∷ codes "wide||n|"
    ∷ codes "wide||n|undo" ∷ []
unfolding encode
ascii_pending = refl

-- only wide ASCII mode changes a character, and only katakana mode takes the katakana
forms :
    (map (λ mode. char_in_mode mode 0x61) (Hira ∷ Kata ∷ Ascii ∷ Wide ∷ []) ≡ codes "aaaａ")
    × (map (λ mode. in_kana mode (record { hira = codes "あ"; kata = codes "ア" })) (Hira ∷ Kata ∷ Ascii ∷ Wide ∷ [])
    ≡ codes "あ" ∷ codes "ア" ∷ codes "あ" ∷ codes "あ" ∷ [])
forms = (refl, refl)
