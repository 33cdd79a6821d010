-- How words, notes, blocks, marks and whole rows are written, and which rows a line can spell.
use Rattle.std.proofs.Common.{◌≡◌, ℕ, true, false, List, [], ◌∷◌, ◌++◌, codes, refl}
use Rattle.skk_text.specs.Text.{byte_len}
use Rattle.skk_calls.specs.Canonical.{canonical, item, written_block, mark_items, is_good}
use Rattle.skk_calls.proofs.Samples.{Gives, plain, noted, block, row, plain_row, ook, a, b, kanji_key, ook_key}

-- a word is quoted where it holds one of six characters, each of which is escaped, and where it begins like a form
words_written : Gives (λ word. item (plain word)) (
    (codes "漢字", codes "漢字") ∷ (codes "and/or;x", codes "(concat \"and\\057or\\073x\")")
    ∷ (codes "/", codes "(concat \"\\057\")") ∷ (codes ";", codes "(concat \"\\073\")")
    ∷ (codes "\"", codes "(concat \"\\\"\")")
    ∷ (codes "\\", codes "(concat \"\\\\\")") ∷ (13 ∷ [], codes "(concat \"\\r\")")
    ∷ (10 ∷ [], codes "(concat \"\\n\")") ∷ (codes "a\"b\\c" ++ 13 ∷ 10 ∷ [], codes "(concat \"a\\\"b\\\\c\\r\\n\")")
    ∷ (codes ".0:<!#]^[", codes ".0:<!#]^[") ∷ (9 ∷ 11 ∷ 12 ∷ 14 ∷ [], 9 ∷ 11 ∷ 12 ∷ 14 ∷ [])
    ∷ (codes "[x", codes "(concat \"[x\")") ∷ (codes "]", codes "(concat \"]\")")
    ∷ (codes "(concat ", codes "(concat \"(concat \")") ∷ (codes "(concat", codes "(concat")
    ∷ (codes "(skk-ignore-dic-word x", codes "(concat \"(skk-ignore-dic-word x\")")
    ∷ (codes "(skk-ignore-dic-word", codes "(skk-ignore-dic-word") ∷ (codes "x(concat ", codes "x(concat ")
    ∷ (codes "#1年", codes "#1年") ∷ (codes "#4", codes "#4")
    ∷ [])
words_written = refl

-- a note stands behind its semicolon as it is
notes_written : Gives item (
    (noted (codes "幹事") (codes "宴会の"), codes "幹事;宴会の") ∷ (noted a (codes ";\"\\"), codes "a;;\"\\")
    ∷ (noted (codes "[") b, codes "(concat \"[\");b")
    ∷ [])
notes_written = refl

-- a block has its okurigana and its words, each with a slash
blocks_written : Gives written_block (
    (block (codes "く") (codes "多" ∷ []), codes "[く/多/]")
    ∷ (block (codes "く") (codes "[" ∷ a ∷ []), codes "[く/(concat \"[\")/a/]")
    ∷ [])
blocks_written = refl

-- one mark has all hidden words, in strings
marks_written : Gives mark_items (
    ([], []) ∷ (codes "漢字" ∷ [], codes "(skk-ignore-dic-word \"漢字\")" ∷ [])
    ∷ (a ∷ codes "/" ∷ [], codes "(skk-ignore-dic-word \"a\" \"\\057\")" ∷ [])
    ∷ [])
marks_written = refl

-- a line has the reading, the candidates, the blocks and the mark
lines : Gives canonical (
    (plain_row (codes "かんじ") (plain (codes "漢字") ∷ []), codes "かんじ /漢字/")
    ∷ (row kanji_key [] [] (codes "漢字" ∷ []) 0, codes "かんじ /(skk-ignore-dic-word \"漢字\")/")
    ∷ (ook, codes "おおk /大/多/[く/多/]/[き/大/]/")
    ∷ (
      row ook_key (plain a ∷ noted b a ∷ []) (block (codes "く") (b ∷ []) ∷ []) (a ∷ []) 7,
      codes "おおk /a/b;a/[く/b/]/(skk-ignore-dic-word \"a\")/",
    )
    ∷ [])
lines = refl

-- the bytes of a line
length_of_line : byte_len (canonical (plain_row (codes "かんじ") (plain (codes "漢字") ∷ []))) ≡ 18
unfolding lib.Utf8.encode
length_of_line = refl

-- a row is good where it says something, and where the words of its blocks and its hidden words are words
good_rows : Gives is_good (
    (row ook_key [] [] [] 1, false) ∷ (row ook_key (plain a ∷ []) [] [] 1, true)
    ∷ (row ook_key [] (block (codes "く") (a ∷ []) ∷ []) [] 1, true) ∷ (row ook_key [] [] (a ∷ []) 1, true)
    ∷ (row ook_key (plain a ∷ []) (block (codes "く") ([] ∷ []) ∷ []) [] 1, false)
    ∷ (row ook_key (plain a ∷ []) [] ([] ∷ []) 1, false) ∷ (row ook_key (plain a ∷ []) [] (a ∷ [] ∷ []) 1, false)
    ∷ [])
unfolding lib.Utf8.encode
good_rows = refl

-- a good row's line has at most 65,535 bytes
longest_line : (word : List ℕ) → byte_len (canonical (plain_row a (plain word ∷ []))) ≡ 65535
    → is_good (plain_row a (plain word ∷ [])) ≡ true
longest_line word e = rw e

too_long_line : (word : List ℕ) → byte_len (canonical (plain_row a (plain word ∷ []))) ≡ 65536
    → is_good (plain_row a (plain word ∷ [])) ≡ false
too_long_line word e = rw e
