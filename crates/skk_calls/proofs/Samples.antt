-- A small dictionary, on which the definitions can be checked by hand, and tables of what definitions give.
use Rattle.std.proofs.Common.{◌≡◌, ℕ, List, [], ◌∷◌, codes, map}
use Rattle.skk_calls.specs.declared.book.NumberedBook.{NumberedBook}
use Rattle.skk_calls.specs.declared.part.Part.TheVariants.{Nasi, Ari}
use Rattle.skk_calls.specs.Rows.{RowKey, Cand, Block, Row}
use Rattle.skk_calls.specs.States.{State}

-- a function gives what a table says of each argument
abbrev pub Gives : {X Y : Type 0} → (X → Y) → List (X × Y) → Type 0
Gives f table = map (λ line. f line.0) table ≡ map (λ line. line.1) table

-- a function of two arguments gives what a table says of each pair
abbrev pub Gives2 : {X Y Z : Type 0} → (X → Y → Z) → List (X × Y × Z) → Type 0
Gives2 f table = map (λ line. f line.0 line.1) table ≡ map (λ line. line.2) table

-- a word without a note, and a word with one
abbrev pub plain : List ℕ → Cand
plain word = record { word = word; note = [] }

abbrev pub noted : List ℕ → List ℕ → Cand
noted word note = record { word = word; note = note }

-- a key without okurigana, and a key with it
abbrev pub nasi : List ℕ → RowKey
nasi reading = record { part = Nasi; reading = reading }

abbrev pub ari : List ℕ → RowKey
ari reading = record { part = Ari; reading = reading }

-- the words that were chosen with one okurigana
abbrev pub block : List ℕ → List (List ℕ) → Block
block okuri words = record { okuri = okuri; words = words }

-- rows that hide nothing, of stamp 0: without blocks, and with them
abbrev pub plain_row : List ℕ → List Cand → Row
plain_row reading cands = record { key = nasi reading; cands = cands; blocks = []; hides = []; stamp = 0 }

abbrev pub block_row : List ℕ → List Cand → List Block → Row
block_row reading cands blocks = record { key = ari reading; cands = cands; blocks = blocks; hides = []; stamp = 0 }

-- a row of a book: its key, candidates, blocks, hidden words and stamp
abbrev pub row : RowKey → List Cand → List Block → List (List ℕ) → ℕ → Row
row key cands blocks hides stamp = record { key = key; cands = cands; blocks = blocks; hides = hides; stamp = stamp }

-- a book: its number, its count and its rows
abbrev pub book : ℕ → ℕ → List Row → NumberedBook
book number count rows = record { number = number; count = count; rows = rows }

-- a state of these books
abbrev pub books : List NumberedBook → State
books all = record { books = all; lists = [] }

-- short texts
abbrev pub a : List ℕ
a = codes "a"

abbrev pub b : List ℕ
b = codes "b"

abbrev pub c : List ℕ
c = codes "c"

-- the rows of the dictionary
abbrev pub nen : Row
nen = plain_row (codes "#ねん") (plain (codes "#1年") ∷ plain (codes "#3年") ∷ plain (codes "#0年") ∷ [])

abbrev pub katsushika : Row
katsushika = plain_row (codes "125") (plain (codes "東京都葛飾区") ∷ [])

abbrev pub page : Row
page = plain_row (codes "p#") (plain (codes "#4") ∷ [])

abbrev pub kanji : Row
kanji = plain_row (codes "かんじ") (plain (codes "漢字") ∷ noted (codes "幹事") (codes "宴会の") ∷ plain (codes "感じ") ∷ [])

abbrev pub chou : Row
chou = plain_row (codes "ちょう>") (plain (codes "超") ∷ [])

abbrev pub it : Row
it = block_row (codes "いt") (plain (codes "言") ∷ plain (codes "行") ∷ []) (block (codes "った") (codes "言" ∷ []) ∷ [])

abbrev pub ugok : Row
ugok = block_row (codes "うごk") (plain (codes "動") ∷ []) (block (codes "く") (codes "動" ∷ []) ∷ [])

abbrev pub ook : Row
ook =
    block_row (codes "おおk") (plain (codes "大") ∷ plain (codes "多") ∷ [])
    (block (codes "く") (codes "多" ∷ []) ∷ block (codes "き") (codes "大" ∷ []) ∷ [])

-- the dictionary, as one file
abbrev pub dictionary : List Row
dictionary = nen ∷ katsushika ∷ page ∷ kanji ∷ chou ∷ it ∷ ugok ∷ ook ∷ []

abbrev pub files : List (List Row)
files = dictionary ∷ []

-- keys that the examples name
abbrev pub kanji_key : RowKey
kanji_key = nasi (codes "かんじ")

abbrev pub ook_key : RowKey
ook_key = ari (codes "おおk")
