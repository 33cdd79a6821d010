-- The definitions at work: what a text says, the items that texts spell, the row that items make, and the reasons.
use Rattle.std.proofs.Common.{◌≡◌, true, false, None, Some, List, [], ◌∷◌, codes, map, refl}
use Rattle.skk_calls.specs.declared.part.Part.TheVariants.{Nasi, Ari}
use Rattle.skk_calls.specs.Rows.{RowKey, reading_limit}
use Rattle.exact_readers.specs.Formats.{whole, all}
use Rattle.dict_format.specs.Items.{before_note, note_of_text, opens_block, closes_block, item_format}
use Rattle.dict_format.specs.Items.Item.{candidate, block, mark}
use Rattle.dict_format.specs.Reasons.{is_bad_reading, lacks_letter, is_slashed}
use Rattle.dict_format.specs.Reading.{texts_at}
use Rattle.dict_format.specs.RowOfItems.{row_of_items, says_something}
use Rattle.dict_format.specs.Words.{said, marked_words}

-- a function gives what a table says of each argument
abbrev pub Gives : {X Y : Type 0} → (X → Y) → List (X × Y) → Type 0
Gives f table = map (λ line. f line.0) table ≡ map (λ line. line.1) table

-- Rows

-- the key of the examples
abbrev sample_key : RowKey
sample_key = record { part = Ari; reading = codes "おくr" }

-- the first of two candidates of a word stays with its note, and an empty word goes
cands_once : row_of_items sample_key (candidate (codes "送") (codes "a") ∷ candidate [] (codes "b")
    ∷ candidate (codes "贈") [] ∷ candidate (codes "送") (codes "c") ∷ [])
    ≡ record {
      key = sample_key;
      cands = record { word = codes "送"; note = codes "a" } ∷ record { word = codes "贈"; note = [] } ∷ [];
      blocks = [];
      hides = [];
      stamp = 0;
    }
unfolding lib.Utf8.encode
cands_once = refl

-- blocks of an okurigana are joined where the first of them stands that has a word; a block without a word, and one
-- whose okurigana is none, go
blocks_joined : row_of_items sample_key
    (block (codes "り") ([] ∷ []) ∷ block (codes "る") (codes "送" ∷ []) ∷ block (codes "り") (codes "贈" ∷ [])
    ∷ block [] (codes "遅" ∷ []) ∷ block (codes "る") (codes "贈" ∷ [] ∷ codes "送" ∷ []) ∷ [])
    ≡ record {
      key = sample_key;
      cands = [];
      blocks =
          record { okuri = codes "る"; words = codes "送" ∷ codes "贈" ∷ [] }
          ∷ record { okuri = codes "り"; words = codes "贈" ∷ [] } ∷ [];
      hides = [];
      stamp = 0;
    }
unfolding lib.Utf8.encode
blocks_joined = refl

-- the words of all marks are hidden, each once, in their order
marks_joined : row_of_items sample_key
    (mark (codes "送" ∷ [] ∷ codes "贈" ∷ []) ∷ candidate (codes "送") [] ∷ mark (codes "贈" ∷ codes "遅" ∷ []) ∷ [])
    ≡ record {
      key = sample_key;
      cands = record { word = codes "送"; note = [] } ∷ [];
      blocks = [];
      hides = codes "送" ∷ codes "贈" ∷ codes "遅" ∷ [];
      stamp = 0;
    }
unfolding lib.Utf8.encode
marks_joined = refl

-- a candidate, a block and a mark say something each by itself, and empty words nothing
something_said : Gives (λ items. says_something (row_of_items sample_key items)) (
    (candidate (codes "送") [] ∷ [], true)
    ∷ (block (codes "り") (codes "送" ∷ []) ∷ [], true)
    ∷ (mark (codes "送" ∷ []) ∷ [], true)
    ∷ (candidate [] (codes "a") ∷ block (codes "り") [] ∷ mark [] ∷ [], false)
    ∷ [])
unfolding lib.Utf8.encode
something_said = refl

-- Words

-- a text says the word that it quotes: each escape, and octal numbers below 128; a form that is not whole says itself
words_said : Gives said (
    (codes "送", codes "送")
    ∷ ([], [])
    ∷ (codes "(concat \"a\\057b\\073\")", codes "a/b;")
    ∷ (codes "(concat \"\\\"\\\\\\n\\r\")", 0x22 ∷ 0x5C ∷ 10 ∷ 13 ∷ [])
    ∷ (codes "(concat \"\\000\\177\\1234\")", 0 ∷ 127 ∷ 0x53 ∷ 0x34 ∷ [])
    ∷ (codes "(concat \"\")", [])
    ∷ (codes "(concat \"\\200\")", codes "(concat \"\\200\")")
    ∷ (codes "(concat \"\\08\")", codes "(concat \"\\08\")")
    ∷ (codes "(concat \"\\a\")", codes "(concat \"\\a\")")
    ∷ (codes "(concat \"a\"", codes "(concat \"a\"")
    ∷ (codes "(concat \"a\"))", codes "(concat \"a\"))")
    ∷ (codes "(concat \"a\" \"b\")", codes "(concat \"a\" \"b\")")
    ∷ (codes "(concat  \"a\")", codes "(concat  \"a\")")
    ∷ [])
unfolding Rattle.exact_readers.specs.Formats.taken
words_said = refl

-- a mark has one string or more, each behind one space
words_marked : Gives (whole marked_words) (
    (codes "(skk-ignore-dic-word \"a\")", Some (codes "a" ∷ []))
    ∷ (codes "(skk-ignore-dic-word \"a\" \"\" \"b\\073\")", Some (codes "a" ∷ [] ∷ codes "b;" ∷ []))
    ∷ (codes "(skk-ignore-dic-word)", None)
    ∷ (codes "(skk-ignore-dic-word \"a\"  \"b\")", None)
    ∷ (codes "(skk-ignore-dic-word \"a\" )", None)
    ∷ (codes "(skk-ignore-dic-word \"a\")b", None)
    ∷ (codes "(skk-ignore-dic-words \"a\")", None)
    ∷ [])
unfolding Rattle.exact_readers.specs.Formats.taken
words_marked = refl

-- Texts

-- a note stands behind the first semicolon, and has no ends of lines
words_before : Gives before_note ((codes "a;b;c", codes "a") ∷ (codes "abc", codes "abc") ∷ (codes ";a", []) ∷ [])
words_before = refl

notes_behind : Gives note_of_text (
    (0x61 ∷ 0x3B ∷ 0x62 ∷ 0x0D ∷ 0x3B ∷ 0x0A ∷ 0x0B ∷ 0x63 ∷ [], 0x62 ∷ 0x3B ∷ 0x0B ∷ 0x63 ∷ [])
    ∷ (codes "abc", [])
    ∷ [])
notes_behind = refl

-- a bracket opens a block in the okuri-ari part alone, and closes one by itself alone
brackets_open : map (λ part. opens_block part (codes "[り")) (Ari ∷ Nasi ∷ []) ≡ true ∷ false ∷ []
brackets_open = refl

brackets_close : Gives closes_block ((codes "]", true) ∷ (codes "]a", false) ∷ ([], false) ∷ [])
unfolding lib.Utf8.encode
brackets_close = refl

-- a block has texts up to the first closing bracket, and is none where that lacks; a bracket alone is a candidate
items_spelled : Gives (all (item_format Ari)) (
    ([], Some [])
    ∷ (
      codes "送;a" ∷ codes "[り" ∷ codes "送;b" ∷ codes "[" ∷ codes "]" ∷ codes "(skk-ignore-dic-word \"a\")" ∷ [],
      Some (candidate (codes "送") (codes "a") ∷ block (codes "り") (codes "送" ∷ codes "[" ∷ []) ∷ mark (codes "a" ∷ [])
          ∷ []),
    )
    ∷ (codes "[" ∷ codes "]" ∷ codes "]" ∷ [], Some (block [] [] ∷ candidate (codes "]") [] ∷ []))
    ∷ (codes "送" ∷ codes "[り" ∷ codes "送" ∷ [], None)
    ∷ [])
unfolding lib.Utf8.encode Rattle.exact_readers.specs.Formats.taken
items_spelled = refl

-- in the okuri-nasi part a bracket is text
brackets_spelled : all (item_format Nasi) (codes "[り" ∷ codes "]" ∷ [])
    ≡ Some (candidate (codes "[り") [] ∷ candidate (codes "]") [] ∷ [])
unfolding lib.Utf8.encode Rattle.exact_readers.specs.Formats.taken
brackets_spelled = refl

-- a body has a text between each two slashes
bodies_cut : Gives texts_at (
    (codes "/a//b/", Some (codes "a" ∷ [] ∷ codes "b" ∷ []))
    ∷ (codes "//", Some ([] ∷ []))
    ∷ (codes "/", None)
    ∷ (codes "/a", None)
    ∷ (codes "a/", None)
    ∷ ([], None)
    ∷ [])
unfolding texts_at Rattle.exact_readers.specs.Formats.taken
bodies_cut = refl

-- Reasons

-- a reading is empty, begins with a semicolon, or holds a control character
readings_bad : Gives is_bad_reading (
    ([], true)
    ∷ (codes ";a", true)
    ∷ (codes "a;", false)
    ∷ (0x61 ∷ 0x1F ∷ [], true)
    ∷ (0x61 ∷ 0x20 ∷ [], false)
    ∷ (0x61 ∷ 0x7E ∷ [], false)
    ∷ (0x61 ∷ 0x7F ∷ [], true)
    ∷ (0x61 ∷ 0x80 ∷ [], false)
    ∷ [])
readings_bad = refl

-- a letter stands behind one character at least
letters_lacking : Gives (lacks_letter Ari) (
    (codes "r", true)
    ∷ (codes "おr", false)
    ∷ (codes "おく", true)
    ∷ (codes "おR", true)
    ∷ (codes "お`", true)
    ∷ (codes "おa", false)
    ∷ (codes "おz", false)
    ∷ (codes "お{", true)
    ∷ [])
letters_lacking = refl

nasi_asks_no_letter : lacks_letter Nasi (codes "お") ≡ false
nasi_asks_no_letter = refl

-- a body begins and ends with a slash, two of them
bodies_slashed : Gives is_slashed (
    (codes "//", true)
    ∷ (codes "/", false)
    ∷ (codes "a/", false)
    ∷ (codes "/a", false)
    ∷ (codes "/a/", true)
    ∷ ([], false)
    ∷ [])
bodies_slashed = refl

-- the most bytes of a reading in each part
reading_limits : map reading_limit (Nasi ∷ Ari ∷ []) ≡ 254 ∷ 255 ∷ []
reading_limits = refl
