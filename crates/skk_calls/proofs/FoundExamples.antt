-- What is found in rows and layers, and which readings go on from a prefix.
use Rattle.std.proofs.Common.{◌≡◌, ◌≤◌, ℕ, true, false, List, [], ◌∷◌, codes, length, refl, Some, None}
use Rattle.std.proofs.lemmas.List.{length-take-le}
use Rattle.skk_calls.specs.Completions.{all_readings, completions}
use Rattle.skk_calls.specs.Found.{ordered, merged, first_of_each, layers, found}
use Rattle.skk_calls.specs.States.{State, empty_state}
use Rattle.skk_calls.specs.Rows.{Row, words_of}
use Rattle.skk_calls.specs.Walks.{texts_ascend, all_ascend, next_above, is_least_above}
use Rattle.skk_calls.proofs.Samples.{Gives, Gives2, plain, noted, nasi, ari, block, row, book, books, plain_row, kanji}
use Rattle.skk_calls.proofs.Samples.{ook, files, kanji_key, ook_key, a, b, c}

-- Blocks

-- the words of the block of an okurigana stand first, and without such a block the candidates stand as they are
words_ordered : Gives (λ okuri. words_of (ordered ook okuri)) (
    (None, codes "大" ∷ codes "多" ∷ []) ∷ (Some (codes "く"), codes "多" ∷ codes "大" ∷ [])
    ∷ (Some (codes "き"), codes "大" ∷ codes "多" ∷ []) ∷ (Some (codes "た"), codes "大" ∷ codes "多" ∷ [])
    ∷ [])
words_ordered = refl

-- a word of a block has the note of the candidate of this word, and none where there is no such candidate
notes_of_block : ordered (row ook_key (noted a (codes "x") ∷ noted b (codes "y") ∷ noted c (codes "z") ∷ [])
    (block (codes "く") (b ∷ codes "d" ∷ a ∷ []) ∷ []) [] 1) (Some (codes "く"))
    ≡ noted b (codes "y") ∷ plain (codes "d") ∷ noted a (codes "x") ∷ noted c (codes "z") ∷ []
notes_of_block = refl

-- Layers

-- a word is hidden in every layer below, and not in its own; the first of each word is kept, with its note
layers_merged : Gives (λ rows. merged rows None) (
    ([], [])
    ∷ (
      row (nasi a) (plain a ∷ []) [] (b ∷ []) 1 ∷ row (nasi a) (plain b ∷ plain c ∷ []) [] (a ∷ []) 1
          ∷ row (nasi a) (plain b ∷ noted c a ∷ plain a ∷ noted (codes "d") a ∷ []) [] [] 1 ∷ [],
      plain a ∷ plain c ∷ noted (codes "d") a ∷ [],
    )
    ∷ (
      row (nasi a) (noted a b ∷ plain b ∷ []) [] (a ∷ []) 1 ∷ row (nasi a) (plain a ∷ plain c ∷ []) [] [] 1 ∷ [],
      noted a b ∷ plain b ∷ plain c ∷ [],
    )
    ∷ (row (nasi a) [] [] (a ∷ b ∷ []) 1 ∷ row (nasi a) (plain a ∷ plain b ∷ plain c ∷ []) [] [] 1 ∷ [], plain c ∷ [])
    ∷ (row kanji_key [] [] (codes "漢字" ∷ []) 0 ∷ kanji ∷ [], noted (codes "幹事") (codes "宴会の") ∷ plain (codes "感じ") ∷ [])
    ∷ [])
layers_merged = refl

-- Lookups

-- two books, of typist 0 and of typist 1, with two rows each
abbrev two_books : State
two_books =
    books (
    book 0 2
    (row (nasi a) (plain (codes "shared") ∷ []) [] [] 1 ∷ row (nasi b) (plain (codes "other") ∷ []) [] [] 2 ∷ [])
    ∷ book 1 2
    (row (nasi a) (plain (codes "own") ∷ []) [] [] 1 ∷ row (nasi b) (plain (codes "other") ∷ []) [] [] 2 ∷ [])
    ∷ []
    )

-- two files, with two rows each
abbrev two_files : List (List Row)
two_files =
    (plain_row b (plain (codes "other") ∷ []) ∷ plain_row a (plain (codes "first") ∷ plain (codes "shared") ∷ []) ∷ [])
    ∷ (plain_row a (plain (codes "second") ∷ plain (codes "own") ∷ []) ∷ []) ∷ []

-- the typist's own book stands first, then the shared book, once, and then the files in their order
found_by : Gives (λ who. words_of (found two_files two_books who (nasi a) None)) (
    (0, codes "shared" ∷ codes "first" ∷ codes "second" ∷ codes "own" ∷ [])
    ∷ (1, codes "own" ∷ codes "shared" ∷ codes "first" ∷ codes "second" ∷ [])
    ∷ (2, codes "shared" ∷ codes "first" ∷ codes "second" ∷ codes "own" ∷ [])
    ∷ [])
found_by = refl

-- the shared book is one layer for its own typist
layers_by : Gives (λ who. length (layers two_files two_books who (nasi a))) ((0, 3) ∷ (1, 4) ∷ (2, 3) ∷ [])
layers_by = refl

-- what is found for other keys, with an okurigana or without
found_for : Gives2 (λ key okuri. words_of (found files empty_state 1 key okuri)) (
    (kanji_key, None, codes "漢字" ∷ codes "幹事" ∷ codes "感じ" ∷ [])
    ∷ (ook_key, Some (codes "く"), codes "多" ∷ codes "大" ∷ []) ∷ (ook_key, Some (codes "き"), codes "大" ∷ codes "多" ∷ [])
    ∷ (nasi (codes "おおk"), None, []) ∷ (ari (codes "かんじ"), None, [])
    ∷ [])
found_for = refl

-- Completions

-- a row with a stamp
abbrev stamped : List ℕ → ℕ → Row
stamped reading stamp = row (nasi reading) (plain (codes "下") ∷ []) [] [] stamp

-- two books and two files of readings, with a row without a candidate, one with okurigana, and one of another prefix
abbrev reading_books : State
reading_books =
    books (
    book 0 4 (stamped (codes "ab") 4 ∷ stamped (codes "ac") 4 ∷ stamped (codes "ad") 1 ∷ [])
    ∷ book 1 6 (stamped (codes "a") 6 ∷ stamped (codes "ac") 2 ∷ stamped (codes "ae") 3
    ∷ row (nasi (codes "ax")) [] [] (a ∷ []) 4 ∷ row (ari (codes "ay")) (plain a ∷ []) [] [] 5 ∷ [])
    ∷ []
    )

abbrev reading_files : List (List Row)
reading_files =
    (stamped (codes "ag") 0 ∷ stamped (codes "b") 0 ∷ stamped (codes "af") 0 ∷ stamped (codes "ba") 0 ∷ [])
    ∷ (stamped (codes "aa") 0 ∷ stamped (codes "af") 0 ∷ []) ∷ []

-- the typist's book stands first, the newest first; then the shared book, once; then each file ascending; each reading
-- once
completed_by : Gives (λ who. completions reading_files reading_books who a) (
    (0, codes "ab" ∷ codes "ac" ∷ codes "ad" ∷ codes "af" ∷ codes "ag" ∷ codes "aa" ∷ [])
    ∷ (1, codes "ae" ∷ codes "ac" ∷ codes "ab" ∷ codes "ad" ∷ codes "af" ∷ codes "ag" ∷ codes "aa" ∷ [])
    ∷ (2, codes "ab" ∷ codes "ac" ∷ codes "ad" ∷ codes "af" ∷ codes "ag" ∷ codes "aa" ∷ [])
    ∷ [])
unfolding lib.Utf8.encode
completed_by = refl

-- a reading goes on from a prefix where it begins with it and is longer
completed : Gives (completions files empty_state 1) (
    (codes "か", codes "かんじ" ∷ []) ∷ (codes "かん", codes "かんじ" ∷ []) ∷ (codes "かんじ", []) ∷ (codes "かんじさ", [])
    ∷ (codes "ぬ", []) ∷ (codes "おお", [])
    ∷ [])
unfolding lib.Utf8.encode
completed = refl

-- where there are 256 readings or more, 256 of them are given
completions_end : (all : List (List Row)) (state : State) (who : ℕ) (prefix : List ℕ)
    → 256 ≤ length (first_of_each (λ reading. reading) [] (all_readings all state who prefix))
    → length (completions all state who prefix) ≡ 256
completions_end all state who prefix enough =
    length-take-le 256 (first_of_each (λ reading. reading) [] (all_readings all state who prefix)) enough

-- Walks

-- texts ascend where each is less than every later one
texts_ascending : Gives texts_ascend (
    ([], true) ∷ (a ∷ b ∷ c ∷ [], true) ∷ (b ∷ a ∷ [], false) ∷ (a ∷ a ∷ [], false) ∷ (a ∷ c ∷ b ∷ [], false)
    ∷ [])
unfolding lib.Utf8.encode
texts_ascending = refl

files_ascending : Gives all_ascend
    (([], true) ∷ ((b ∷ []) ∷ (a ∷ []) ∷ [], true) ∷ ((a ∷ []) ∷ (b ∷ a ∷ []) ∷ [], false) ∷ [])
unfolding lib.Utf8.encode
files_ascending = refl

-- the next reading above another
next_readings : Gives (next_above (a ∷ b ∷ c ∷ []))
    (([], Some a) ∷ (a, Some b) ∷ (codes "aa", Some b) ∷ (b, Some c) ∷ (c, None) ∷ [])
unfolding lib.Utf8.encode
next_readings = refl

-- what stands in no way of the next reading: a text that is not above the low one, and one that is not below the next
least_readings : Gives (is_least_above a c)
    ((a, true) ∷ (codes "A", true) ∷ (b, false) ∷ (c, true) ∷ (codes "d", true) ∷ [])
unfolding lib.Utf8.encode
least_readings = refl
