-- The records of compactions of small states, and the ends of their files, each worked out by hand.
use Rattle.std.proofs.Common.{◌≡◌, ℕ, true, false, List, [], ◌∷◌, codes, map, refl}
use Rattle.exact_readers.specs.Numbers.{number_bytes}
use Rattle.skk_calls.specs.declared.book.NumberedBook.{NumberedBook}
use Rattle.skk_calls.specs.declared.part.Part.{Part}
use Rattle.skk_calls.specs.declared.part.Part.TheVariants.{Nasi, Ari}
use Rattle.skk_calls.specs.Rows.{Row}
use Rattle.skk_calls.specs.States.{State, empty_state}
use Rattle.skk_calls.specs.Histories.{tight}
use Rattle.skk_journal.specs.Records.{framed, end_of}
use Rattle.learned_store.specs.declared.form.PayloadForm.TheVariants.{Put, SetCount}
use Rattle.learned_store.specs.Payloads.{payload_of}
use Rattle.learned_store.specs.Compacted.{compacted, is_written}
use Rattle.learned_store.specs.Compacting.{form_record, book_records, book_need, capped}

-- a row with one candidate and nothing else
abbrev row : Part → List ℕ → List ℕ → ℕ → Row
row part reading word stamp =
    record {
      key = record { part = part; reading = reading };
      cands = record { word = word; note = [] } ∷ [];
      blocks = [];
      hides = [];
      stamp = stamp;
    }

abbrev book : ℕ → ℕ → List Row → NumberedBook
book number count rows = record { number = number; count = count; rows = rows }

abbrev books : List NumberedBook → State
books bs = record { books = bs; lists = [] }

-- b for a, learnt as the second of seven changes, and c for ak, learnt as the seventh
abbrev plain : Row
plain = row Nasi (codes "a") (codes "b") 2

abbrev inflected : Row
inflected = row Ari (codes "ak") (codes "c") 7

-- b is hidden for a, as the third change
abbrev hidden : Row
hidden = record plain { cands = []; hides = codes "b" ∷ []; stamp = 3 }

-- book 1 has both, and book 258 has changed three times and has no row left
abbrev two_books : State
two_books = books (book 1 7 (plain ∷ inflected ∷ []) ∷ book 258 3 [] ∷ [])

-- each row has its own stamp and the count of its book, and a book without rows keeps its count
compacted_states : map compacted (
    empty_state ∷ two_books ∷ books (book 0 9 [] ∷ book 1 2 (plain ∷ []) ∷ book 2 7 (inflected ∷ []) ∷ []) ∷ [])
    ≡ [] ∷ (Put 1 7 plain ∷ Put 1 7 inflected ∷ SetCount 258 3 ∷ [])
    ∷ (SetCount 0 9 ∷ Put 1 2 plain ∷ Put 2 7 inflected ∷ []) ∷ []
compacted_states = refl

-- their bytes
compacted_bytes : framed (map payload_of (compacted two_books))
    ≡ 1 ∷ 25 ∷ 0 ∷ 0 ∷ 0 ∷ 1 ∷ 1 ∷ 0 ∷ 7 ∷ 0 ∷ 0 ∷ 0 ∷ 0 ∷ 0 ∷ 0 ∷ 0 ∷ 2 ∷ 0 ∷ 0 ∷ 0 ∷ 0 ∷ 0 ∷ 0 ∷ 0 ∷ 0
    ∷ 97 ∷ 32 ∷ 47 ∷ 98 ∷ 47
    ∷ 1 ∷ 26 ∷ 0 ∷ 0 ∷ 0 ∷ 1 ∷ 1 ∷ 0 ∷ 7 ∷ 0 ∷ 0 ∷ 0 ∷ 0 ∷ 0 ∷ 0 ∷ 0 ∷ 7 ∷ 0 ∷ 0 ∷ 0 ∷ 0 ∷ 0 ∷ 0 ∷ 0 ∷ 1
    ∷ 97 ∷ 107 ∷ 32 ∷ 47 ∷ 99 ∷ 47
    ∷ 1 ∷ 11 ∷ 0 ∷ 0 ∷ 0 ∷ 3 ∷ 2 ∷ 1 ∷ 3 ∷ 0 ∷ 0 ∷ 0 ∷ 0 ∷ 0 ∷ 0 ∷ 0 ∷ []
unfolding lib.Utf8.encode number_bytes
compacted_bytes = refl

-- 18 bytes without a book, 30 and 31 more for the rows, 16 more for the count; and 43 more for 漢字 of かんじ
tight_ends : map tight (
    empty_state ∷ books (book 258 3 [] ∷ []) ∷ books (book 1 7 (plain ∷ []) ∷ []) ∷ two_books
    ∷ books (book 1 1 (row Nasi (codes "かんじ") (codes "漢字") 1 ∷ []) ∷ [])
    ∷ books (book 0 9 [] ∷ book 1 2 (plain ∷ []) ∷ book 2 7 (inflected ∷ []) ∷ [])
    ∷ [])
    ≡ 18 ∷ 34 ∷ 48 ∷ 95 ∷ 61 ∷ 95 ∷ []
unfolding lib.Utf8.encode
tight_ends = refl

-- the file of two_books ends there
two_books_end : end_of (map payload_of (compacted two_books)) ≡ 95
unfolding lib.Utf8.encode number_bytes
two_books_end = refl

-- a state may not be written where the number or the count of a book isn't held, or a row is above its count
written_states : map is_written (
    empty_state ∷ two_books ∷ books (book 65536 3 [] ∷ []) ∷ books (book 1 18446744073709551616 [] ∷ [])
    ∷ books (book 1 1 (plain ∷ []) ∷ [])
    ∷ books (book 0 9 [] ∷ book 65536 3 [] ∷ [])
    ∷ books (book 1 7 (row Nasi (codes "a") (0xD800 ∷ []) 2 ∷ []) ∷ [])
    ∷ [])
    ≡ true ∷ true ∷ false ∷ false ∷ false ∷ false ∷ false ∷ []
unfolding lib.Utf8.encode
written_states = refl

-- a row that hides a word is put as one with a candidate is, and needs 54 bytes: 25, and 29 of its line
hidden_row : (compacted (books (book 1 7 (hidden ∷ inflected ∷ []) ∷ [])) ≡ Put 1 7 hidden ∷ Put 1 7 inflected ∷ [])
    × (payload_of (Put 1 7 hidden)
    ≡ 1 ∷ 1 ∷ 0 ∷ 7 ∷ 0 ∷ 0 ∷ 0 ∷ 0 ∷ 0 ∷ 0 ∷ 0 ∷ 3 ∷ 0 ∷ 0 ∷ 0 ∷ 0 ∷ 0 ∷ 0 ∷ 0 ∷ 0
    ∷ codes "a /(skk-ignore-dic-word \"b\")/")
    × (tight (books (book 1 7 (hidden ∷ []) ∷ [])) ≡ 72)
    × (is_written (books (book 1 7 (hidden ∷ []) ∷ [])) ≡ true)
unfolding lib.Utf8.encode number_bytes
hidden_row = (refl, refl, refl, refl)

-- the books in memory: one that has not changed has no records, one without rows that of its count, and others those of
-- their rows, one behind another
abbrev kept : List NumberedBook
kept = book 1 0 [] ∷ book 258 3 [] ∷ book 1 7 (plain ∷ []) ∷ book 1 7 (plain ∷ inflected ∷ []) ∷ []

kept_needs : map book_need kept ≡ 0 ∷ 16 ∷ 30 ∷ 61 ∷ []
unfolding lib.Utf8.encode
kept_needs = refl

kept_records : map book_records kept
    ≡ [] ∷ (1 ∷ 11 ∷ 0 ∷ 0 ∷ 0 ∷ 3 ∷ 2 ∷ 1 ∷ 3 ∷ 0 ∷ 0 ∷ 0 ∷ 0 ∷ 0 ∷ 0 ∷ 0 ∷ [])
    ∷ (1 ∷ 25 ∷ 0 ∷ 0 ∷ 0 ∷ 1 ∷ 1 ∷ 0 ∷ 7 ∷ 0 ∷ 0 ∷ 0 ∷ 0 ∷ 0 ∷ 0 ∷ 0 ∷ 2 ∷ 0 ∷ 0 ∷ 0 ∷ 0 ∷ 0 ∷ 0 ∷ 0 ∷ 0
    ∷ 97 ∷ 32 ∷ 47 ∷ 98 ∷ 47 ∷ [])
    ∷ (1 ∷ 25 ∷ 0 ∷ 0 ∷ 0 ∷ 1 ∷ 1 ∷ 0 ∷ 7 ∷ 0 ∷ 0 ∷ 0 ∷ 0 ∷ 0 ∷ 0 ∷ 0 ∷ 2 ∷ 0 ∷ 0 ∷ 0 ∷ 0 ∷ 0 ∷ 0 ∷ 0 ∷ 0
    ∷ 97 ∷ 32 ∷ 47 ∷ 98 ∷ 47
    ∷ 1 ∷ 26 ∷ 0 ∷ 0 ∷ 0 ∷ 1 ∷ 1 ∷ 0 ∷ 7 ∷ 0 ∷ 0 ∷ 0 ∷ 0 ∷ 0 ∷ 0 ∷ 0 ∷ 7 ∷ 0 ∷ 0 ∷ 0 ∷ 0 ∷ 0 ∷ 0 ∷ 0 ∷ 1
    ∷ 97 ∷ 107 ∷ 32 ∷ 47 ∷ 99 ∷ 47 ∷ []) ∷ []
unfolding lib.Utf8.encode number_bytes
kept_records = refl

-- the record of a count
count_record : form_record (SetCount 2 1) ≡ 1 ∷ 11 ∷ 0 ∷ 0 ∷ 0 ∷ 3 ∷ 2 ∷ 0 ∷ 1 ∷ 0 ∷ 0 ∷ 0 ∷ 0 ∷ 0 ∷ 0 ∷ 0 ∷ []
unfolding number_bytes
count_record = refl

-- the greatest number of eight bytes, and what is beside it
caps : map capped (0 ∷ 18446744073709551614 ∷ 18446744073709551615 ∷ 18446744073709551616 ∷ [])
    ≡ 0 ∷ 18446744073709551614 ∷ 18446744073709551615 ∷ 18446744073709551615 ∷ []
caps = refl
