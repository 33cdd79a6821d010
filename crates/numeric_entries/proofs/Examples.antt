-- The definitions at small texts, each worked out by hand.
use Rattle.std.proofs.Common.{◌≡◌, ℕ, true, false, Option, None, Some, List, [], ◌∷◌, codes, map, refl}
use Prim.Native.String.{String}
use Rattle.std.specs.Char.{is_ascii_digit}
use Rattle.numeric_entries.specs.declared.form.NumberForm.{NumberForm}
use Rattle.numeric_entries.specs.declared.form.NumberForm.TheVariants.{Digits, Wide, Kanji, Places, Lookup, Formal}
use Rattle.numeric_entries.specs.declared.form.NumberForm.TheVariants.{Commas}
use Rattle.numeric_entries.specs.declared.form.NumberForm.TheVariants.{Square}
use Rattle.numeric_entries.specs.Forms.{Holds, asks_lookup, fill, form_text, parts_of, stays, stands}
use Rattle.numeric_entries.specs.Numbers.{NumberKey, are_numbers, begins, is_number, number_key, runs_of}
use Rattle.numeric_entries.specs.Numerals.{groups_of}

-- the texts that are written so
abbrev texts : List String → List (List ℕ)
texts written = map (λ text. codes text) written

-- Keys

-- a key, and its numbers
abbrev key : String → List String → Option NumberKey
key mark numbers = Some (record { key = codes mark; numbers = texts numbers })

-- the keys of readings are what a table says
abbrev Keys : List (String × Option NumberKey) → Type 0
Keys table = map (λ line. number_key (codes line.0)) table ≡ map (λ line. line.1) table

number_keys : Keys (
    ("1995ねん12", key "#ねん#" ("1995" ∷ "12" ∷ [])) ∷ ("だい5", key "だい#" ("5" ∷ []))
    ∷ ("5かい5", key "#かい#" ("5" ∷ "5" ∷ [])) ∷ ("007", key "#" ("007" ∷ []))
    ∷ ("1a2", key "#a#" ("1" ∷ "2" ∷ [])) ∷ ("a#1", key "a##" ("1" ∷ [])) ∷ ("0123456789", key "#" ("0123456789" ∷ []))
    ∷ ("/0:9/", key "/#:#/" ("0" ∷ "9" ∷ [])) ∷ ("", None) ∷ ("かんじ", None) ∷ ("#", None) ∷ ("/:", None) ∷ ("１２", None)
    ∷ [])
number_keys = refl

runs : map (λ text. runs_of (codes text)) ("12ab3" ∷ "a1" ∷ "" ∷ "１2" ∷ [])
    ≡ texts ("12" ∷ "ab" ∷ "3" ∷ []) ∷ texts ("a" ∷ "1" ∷ []) ∷ [] ∷ texts ("１" ∷ "2" ∷ []) ∷ []
runs = refl

numbers : map is_number (texts ("0" ∷ "9" ∷ "00" ∷ "12" ∷ "" ∷ "a" ∷ "1a" ∷ "a1" ∷ "/" ∷ ":" ∷ "１" ∷ []))
    ≡ true ∷ true ∷ true ∷ true ∷ false ∷ false ∷ false ∷ false ∷ false ∷ false ∷ false ∷ []
numbers = refl

digits_first : map (λ text. begins is_ascii_digit text) (texts ("" ∷ "1" ∷ "1a" ∷ "a" ∷ "a1" ∷ []))
    ≡ false ∷ true ∷ true ∷ false ∷ false ∷ []
digits_first = refl

many_numbers : map (λ list. are_numbers (texts list)) ([] ∷ ("1" ∷ "02" ∷ []) ∷ ("1" ∷ "" ∷ []) ∷ ("a" ∷ "1" ∷ []) ∷ [])
    ≡ true ∷ true ∷ false ∷ false ∷ []
many_numbers = refl

-- What forms write

-- a form writes for numbers what a table says
abbrev Writes : NumberForm → List (String × String) → Type 0
Writes form table =
    map (λ line. form_text form (codes line.0) (codes "first")) table ≡ map (λ line. codes line.1) table

as_digits : Writes Digits (("0", "0") ∷ ("007", "007") ∷ ("1995", "1995") ∷ [])
as_digits = refl

as_wide : Writes Wide (("0123456789", "０１２３４５６７８９") ∷ ("12", "１２") ∷ [])
as_wide = refl

as_kanji : Writes Kanji (("0123456789", "〇一二三四五六七八九") ∷ ("1995", "一九九五") ∷ ("00", "〇〇") ∷ [])
as_kanji = refl

-- zero, leading zeros, and each place with a one and with more
in_places : Writes Places (
    ("0", "〇") ∷ ("00", "〇") ∷ ("0000", "〇") ∷ ("1", "一") ∷ ("01", "一") ∷ ("9", "九") ∷ ("10", "十") ∷ ("11", "十一")
    ∷ ("20", "二十") ∷ ("100", "百") ∷ ("101", "百一") ∷ ("110", "百十") ∷ ("300", "三百") ∷ ("0123", "百二十三")
    ∷ ("1000", "千") ∷ ("1001", "千一") ∷ ("1111", "千百十一") ∷ ("1995", "千九百九十五") ∷ ("4567", "四千五百六十七")
    ∷ ("8000", "八千") ∷ [])
in_places = refl

-- groups: their names, zero groups between and behind, and leading zeros
in_groups : Writes Places (
    ("10000", "一万") ∷ ("11000", "一万千") ∷ ("10010", "一万十") ∷ ("20000", "二万") ∷ ("100000", "十万")
    ∷ ("10000000", "千万") ∷ ("100000000", "一億") ∷ ("100000001", "一億一") ∷ ("100010000", "一億一万")
    ∷ ("1000000000000", "一兆") ∷ ("1000000000001", "一兆一") ∷ ("1000100000000", "一兆一億")
    ∷ ("000100000000", "一億") ∷ [])
in_groups = refl

-- sixteen digits are written, and seventeen stay, zeros at the head too
long_numbers : Writes Places (
    ("1234567890123456", "千二百三十四兆五千六百七十八億九千十二万三千四百五十六")
    ∷ ("9999999999999999", "九千九百九十九兆九千九百九十九億九千九百九十九万九千九百九十九")
    ∷ ("0000000000000001", "一") ∷ ("0000000000000000", "〇")
    ∷ ("10000000000000000", "10000000000000000") ∷ ("00000000000000001", "00000000000000001")
    ∷ ("00000000000000000", "00000000000000000")
    ∷ [])
long_numbers = refl

formal_numbers : Writes Formal (
    ("0", "零") ∷ ("00", "零") ∷ ("1", "壱") ∷ ("05", "伍") ∷ ("10", "壱拾") ∷ ("11", "壱拾壱") ∷ ("100", "壱百")
    ∷ ("1000", "壱阡") ∷ ("1111", "壱阡壱百壱拾壱") ∷ ("10000", "壱萬") ∷ ("11000", "壱萬壱阡") ∷ ("20305", "弐萬参百伍")
    ∷ ("1234567890", "壱拾弐億参阡四百伍拾六萬七阡八百九拾") ∷ ("1000000000000", "壱兆")
    ∷ ("1000000000000000", "壱阡兆") ∷ ("10000000000000000", "10000000000000000")
    ∷ [])
formal_numbers = refl

with_commas : Writes Commas (
    ("0", "0") ∷ ("12", "12") ∷ ("123", "123") ∷ ("000", "000") ∷ ("1000", "1,000") ∷ ("0000", "0,000")
    ∷ ("12345", "12,345") ∷ ("123456", "123,456") ∷ ("1234567", "1,234,567") ∷ ("0012345", "0,012,345")
    ∷ ("123456789012345678", "123,456,789,012,345,678")
    ∷ [])
with_commas = refl

on_board : Writes Square (
    ("34", "３四") ∷ ("11", "１一") ∷ ("19", "１九") ∷ ("91", "９一") ∷ ("99", "９九") ∷ ("05", "05") ∷ ("50", "50")
    ∷ ("00", "00") ∷ ("3", "3") ∷ ("345", "345") ∷ ("034", "034") ∷ ("0034", "0034")
    ∷ ("340", "340")
    ∷ [])
on_board = refl

looked_up : Writes Lookup (("12", "first") ∷ ("0", "first") ∷ [])
looked_up = refl

groups : map (λ digits. groups_of 3 (codes digits)) ("" ∷ "1" ∷ "123" ∷ "1234" ∷ "1234567" ∷ [])
    ≡ [] ∷ texts ("1" ∷ []) ∷ texts ("123" ∷ []) ∷ texts ("1" ∷ "234" ∷ []) ∷ texts ("1" ∷ "234" ∷ "567" ∷ []) ∷ []
groups = refl

-- Words

-- a word, numbers, the first words that were found for them, and the word that is filled
abbrev Line : Type 0
Line = String × List String × List String × String

-- words are filled as a table says
abbrev Fills : List Line → Type 0
Fills table =
    map (λ (line : Line). fill (codes line.0) (texts line.1) (texts line.2)) table
    ≡ map (λ (line : Line). codes line.3) table

-- the form of each digit, and the others, which are none
each_form : Fills (
    ("#0", "34" ∷ [], "x" ∷ [], "34") ∷ ("#1", "34" ∷ [], "x" ∷ [], "３４") ∷ ("#2", "34" ∷ [], "x" ∷ [], "三四")
    ∷ ("#3", "34" ∷ [], "x" ∷ [], "三十四") ∷ ("#4", "34" ∷ [], "x" ∷ [], "x") ∷ ("#5", "34" ∷ [], "x" ∷ [], "参拾四")
    ∷ ("#6", "34" ∷ [], "x" ∷ [], "#6") ∷ ("#7", "34" ∷ [], "x" ∷ [], "#7") ∷ ("#8", "3434" ∷ [], "x" ∷ [], "3,434")
    ∷ ("#9", "34" ∷ [], "x" ∷ [], "３四") ∷ ("#/", "34" ∷ [], "x" ∷ [], "#/") ∷ ("#:", "34" ∷ [], "x" ∷ [], "#:")
    ∷ ("#a", "34" ∷ [], "x" ∷ [], "#a") ∷ ("#１", "34" ∷ [], "x" ∷ [], "#１") ∷ ("＃1", "34" ∷ [], "x" ∷ [], "＃1")
    ∷ [])
each_form = refl

-- forms from left to right, with the numbers in order, and what stands between and beside them
several_forms : Fills (
    ("#3年#1#2", "1995" ∷ "12" ∷ [], "1995" ∷ "12" ∷ [], "千九百九十五年１２#2") ∷ ("", "1" ∷ [], "1" ∷ [], "")
    ∷ ("年", "1" ∷ [], "1" ∷ [], "年") ∷ ("#", "5" ∷ [], "5" ∷ [], "#") ∷ ("##1", "5" ∷ [], "5" ∷ [], "#５")
    ∷ ("#12", "5" ∷ [], "5" ∷ [], "５2") ∷ ("#1#", "5" ∷ [], "5" ∷ [], "５#") ∷ ("#6#1", "5" ∷ [], "5" ∷ [], "#6５")
    ∷ ("1#1", "5" ∷ [], "5" ∷ [], "1５") ∷ ("#1#1", "5" ∷ [], "5" ∷ [], "５#1") ∷ ("#0", [], [], "#0")
    ∷ ("#1", "5" ∷ "6" ∷ [], "5" ∷ "6" ∷ [], "５") ∷ ("#0#1#2", "1" ∷ "2" ∷ "3" ∷ [], "x" ∷ "y" ∷ "z" ∷ [], "1２三")
    ∷ [])
several_forms = refl

-- the first word of a number is taken by `#4` at its place, and is not filled again
first_words : Fills (
    ("#4#4", "1" ∷ "2" ∷ [], "一" ∷ "二" ∷ [], "一二") ∷ ("#0#4", "1" ∷ "2" ∷ [], "一" ∷ "二" ∷ [], "1二")
    ∷ ("#4#1", "7" ∷ "8" ∷ [], "#1" ∷ "八" ∷ [], "#1８") ∷ ("#4#4", "1" ∷ [], "一" ∷ [], "一#4")
    ∷ [])
first_words = refl

parts : parts_of (codes "##1#a4") ≡ stays 0x23 ∷ stands 0x31 Wide ∷ stays 0x23 ∷ stays 0x61 ∷ stays 0x34 ∷ []
parts = refl

-- words that ask for a look-up, and words that do not
lookups : map asks_lookup (texts ("#4" ∷ "x#4y" ∷ "##4" ∷ "#0#4" ∷ "#44" ∷ "#4#3" ∷ []))
    ≡ true ∷ true ∷ true ∷ true ∷ true ∷ true ∷ []
lookups = refl

no_lookups : map asks_lookup (texts ("" ∷ "4" ∷ "#" ∷ "4#" ∷ "#3" ∷ "#34" ∷ "#x4" ∷ "＃4" ∷ "#５" ∷ []))
    ≡ false ∷ false ∷ false ∷ false ∷ false ∷ false ∷ false ∷ false ∷ false ∷ []
no_lookups = refl

-- a piece is held between what stands before it and what stands behind it
held_at_front : Holds (codes "#4") (codes "#4y")
held_at_front = ([], codes "y", refl)

held_between : Holds (codes "#4") (codes "x#4y")
held_between = (codes "x", codes "y", refl)

held_at_end : Holds (codes "#4") (codes "x#4")
held_at_end = (codes "x", [], refl)
