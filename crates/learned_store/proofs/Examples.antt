-- The definitions at small examples, each worked out by hand.
use Rattle.std.proofs.Common.{◌≡◌, ℕ, ◌^◌, ◌-◌, true, false, None, Some, List, [], ◌∷◌, map, length, codes, refl}
use Rattle.exact_readers.specs.Numbers.{number_bytes}
use Rattle.skk_calls.specs.declared.part.Part.{Part}
use Rattle.skk_calls.specs.declared.part.Part.TheVariants.{Nasi, Ari}
use Rattle.skk_calls.specs.declared.call.Call.TheVariants.{Lookup, Complete, Learn, Purge, Annotate, Share, Unlearn}
use Rattle.skk_calls.specs.Rows.{RowKey, Cand, Row}
use Rattle.skk_calls.specs.States.{State, empty_state}
use Rattle.learned_store.specs.declared.form.PayloadForm.{PayloadForm}
use Rattle.learned_store.specs.declared.form.PayloadForm.TheVariants.{Put, Drop, SetCount, Note, SetList}
use Rattle.learned_store.specs.Payloads.{book_number, wide_number, part_byte, typist_number}
use Rattle.learned_store.specs.Payloads.{counted_by, first_version, newest_version, may_follow}
use Rattle.learned_store.specs.Payloads.{payload_of, are_held, is_sound, state_told, change_told}

-- Bytes

books : map book_number (0 ∷ 1 ∷ 258 ∷ 65535 ∷ []) ≡ (0 ∷ 0 ∷ []) ∷ (1 ∷ 0 ∷ []) ∷ (2 ∷ 1 ∷ []) ∷ (255 ∷ 255 ∷ []) ∷ []
unfolding number_bytes
books = refl

typists : map typist_number (0 ∷ 258 ∷ []) ≡ (0 ∷ 0 ∷ []) ∷ (2 ∷ 1 ∷ []) ∷ []
unfolding number_bytes
typists = refl

wide : map wide_number (0 ∷ 1 ∷ 578437695752307201 ∷ 18446744073709551615 ∷ [])
    ≡ (0 ∷ 0 ∷ 0 ∷ 0 ∷ 0 ∷ 0 ∷ 0 ∷ 0 ∷ []) ∷ (1 ∷ 0 ∷ 0 ∷ 0 ∷ 0 ∷ 0 ∷ 0 ∷ 0 ∷ [])
    ∷ (1 ∷ 2 ∷ 3 ∷ 4 ∷ 5 ∷ 6 ∷ 7 ∷ 8 ∷ []) ∷ (255 ∷ 255 ∷ 255 ∷ 255 ∷ 255 ∷ 255 ∷ 255 ∷ 255 ∷ []) ∷ []
unfolding number_bytes
wide = refl

parts : map part_byte (Nasi ∷ Ari ∷ []) ≡ 0 ∷ 1 ∷ []
parts = refl

-- a key, and a row of it with one candidate
abbrev key : Part → List ℕ → RowKey
key part reading = record { part = part; reading = reading }

abbrev cand : List ℕ → List ℕ → Cand
cand word note = record { word = word; note = note }

abbrev row : Part → List ℕ → List ℕ → ℕ → Row
row part reading word stamp =
    record {
      key = key part reading;
      cands = record { word = word; note = [] } ∷ [];
      blocks = [];
      hides = [];
      stamp = stamp;
    }

-- 漢字 for かんじ with the stamp 1 in book 1, whose count is 1
abbrev learning : List ℕ
learning =
    1 ∷ 1 ∷ 0 ∷ 1 ∷ 0 ∷ 0 ∷ 0 ∷ 0 ∷ 0 ∷ 0 ∷ 0 ∷ 1 ∷ 0 ∷ 0 ∷ 0 ∷ 0 ∷ 0 ∷ 0 ∷ 0 ∷ 0 ∷ 227 ∷ 129 ∷ 139 ∷ 227 ∷ 130 ∷ 147
    ∷ 227 ∷ 129 ∷ 152 ∷ 32 ∷ 47 ∷ 230 ∷ 188 ∷ 162 ∷ 229 ∷ 173 ∷ 151 ∷ 47 ∷ []

learning_bytes : (payload_of (Put 1 1 (row Nasi (codes "かんじ") (codes "漢字") 1)) ≡ learning) × (length learning ≡ 38)
unfolding lib.Utf8.encode number_bytes
learning_bytes = (refl, refl)

-- a row with okurigana, whose stamp is less than the count of its book; 大 for おおk
put_payload : payload_of (Put 258 772 (row Ari (codes "おおk") (codes "大") 259))
    ≡ 1 ∷ 2 ∷ 1 ∷ 4 ∷ 3 ∷ 0 ∷ 0 ∷ 0 ∷ 0 ∷ 0 ∷ 0 ∷ 3 ∷ 1 ∷ 0 ∷ 0 ∷ 0 ∷ 0 ∷ 0 ∷ 0 ∷ 1 ∷ 227 ∷ 129 ∷ 138 ∷ 227 ∷ 129 ∷ 138
    ∷ 107 ∷ 32 ∷ 47 ∷ 229 ∷ 164 ∷ 167 ∷ 47 ∷ []
unfolding lib.Utf8.encode number_bytes
put_payload = refl

-- the row of かんじ, and that of おおk, are taken out
drop_payloads : map payload_of (Drop 1 2 (key Nasi (codes "かんじ")) ∷ Drop 258 772 (key Ari (codes "おおk")) ∷ [])
    ≡ (2 ∷ 1 ∷ 0 ∷ 2 ∷ 0 ∷ 0 ∷ 0 ∷ 0 ∷ 0 ∷ 0 ∷ 0 ∷ 0 ∷ 227 ∷ 129 ∷ 139 ∷ 227 ∷ 130 ∷ 147 ∷ 227 ∷ 129 ∷ 152 ∷ [])
    ∷ (2 ∷ 2 ∷ 1 ∷ 4 ∷ 3 ∷ 0 ∷ 0 ∷ 0 ∷ 0 ∷ 0 ∷ 0 ∷ 1 ∷ 227 ∷ 129 ∷ 138 ∷ 227 ∷ 129 ∷ 138 ∷ 107 ∷ []) ∷ []
unfolding lib.Utf8.encode number_bytes
drop_payloads = refl

-- 漢字 for かんじ gets a note by the second change of book 1, and one of the row of おおk is taken away
note_payloads : map payload_of (Note 1 2 (key Nasi (codes "かんじ")) (cand (codes "漢字") (codes "x"))
    ∷ Note 258 772 (key Ari (codes "おおk")) (cand (codes "大") []) ∷ [])
    ≡ (4 ∷ 1 ∷ 0 ∷ 2 ∷ 0 ∷ 0 ∷ 0 ∷ 0 ∷ 0 ∷ 0 ∷ 0 ∷ 0 ∷ 9 ∷ 227 ∷ 129 ∷ 139 ∷ 227 ∷ 130 ∷ 147 ∷ 227 ∷ 129 ∷ 152 ∷ 230
    ∷ 188 ∷ 162 ∷ 229 ∷ 173 ∷ 151 ∷ 59 ∷ 120 ∷ [])
    ∷ (4 ∷ 2 ∷ 1 ∷ 4 ∷ 3 ∷ 0 ∷ 0 ∷ 0 ∷ 0 ∷ 0 ∷ 0 ∷ 1 ∷ 7 ∷ 227 ∷ 129 ∷ 138 ∷ 227 ∷ 129 ∷ 138 ∷ 107 ∷ 229 ∷ 164 ∷ 167
    ∷ []) ∷ []
unfolding lib.Utf8.encode number_bytes
note_payloads = refl

-- a book gets a count
count_payload : payload_of (SetCount 258 578437695752307201) ≡ 3 ∷ 2 ∷ 1 ∷ 1 ∷ 2 ∷ 3 ∷ 4 ∷ 5 ∷ 6 ∷ 7 ∷ 8 ∷ []
unfolding number_bytes
count_payload = refl

-- typist 1 reads the books 7 and 0, and typist 258 the book 772 alone
list_payloads : map payload_of (SetList 1 (7 ∷ 0 ∷ []) ∷ SetList 258 (772 ∷ []) ∷ [])
    ≡ (5 ∷ 1 ∷ 0 ∷ 2 ∷ 7 ∷ 0 ∷ 0 ∷ 0 ∷ []) ∷ (5 ∷ 2 ∷ 1 ∷ 1 ∷ 4 ∷ 3 ∷ []) ∷ []
unfolding number_bytes
list_payloads = refl

-- the book and the count of each form, of which a list has none
abbrev forms : List PayloadForm
forms =
    Put 7 9 (row Nasi (codes "a") (codes "b") 8) ∷ Drop 5 6 (key Nasi (codes "a")) ∷ SetCount 3 4
    ∷ Note 1 2 (key Nasi (codes "a")) (cand (codes "b") []) ∷ SetList 8 (7 ∷ []) ∷ []

form_counts : map counted_by forms ≡ Some (7, 9) ∷ Some (5, 6) ∷ Some (3, 4) ∷ Some (1, 2) ∷ None ∷ []
form_counts = refl

-- the version that first has each, and the newest
form_versions : map first_version forms ≡ 1 ∷ 1 ∷ 1 ∷ 2 ∷ 3 ∷ []
form_versions = refl

newest : newest_version ≡ 3
newest = refl

-- What may be written

-- numbers that two and eight bytes can hold
held : map (λ (line : ℕ × ℕ). are_held line.0 line.1)
    ((0, 0) ∷ (65535, 2 ^ 64 - 1) ∷ (65536, 0) ∷ (0, 2 ^ 64) ∷ []) ≡ true ∷ true ∷ false ∷ false ∷ []
held = refl

-- a row with stamps from 0 to one more than the count 2; a row that says nothing; one of no key; two of a number that
-- is no character; of okurigana, one with its letter and one without; and numbers that are not held
sound_puts : map is_sound (
    Put 1 2 (row Nasi (codes "a") (codes "b") 0) ∷ Put 1 2 (row Nasi (codes "a") (codes "b") 1)
    ∷ Put 1 2 (row Nasi (codes "a") (codes "b") 2) ∷ Put 1 2 (row Nasi (codes "a") (codes "b") 3)
    ∷ Put 1 2 (record (row Nasi (codes "a") (codes "b") 1) { cands = [] })
    ∷ Put 1 2 (row Nasi (codes ";") (codes "b") 1) ∷ Put 1 2 (row Nasi (codes "a") (55296 ∷ []) 1)
    ∷ Put 1 2 (row Nasi (55296 ∷ []) (codes "b") 1)
    ∷ Put 1 2 (row Ari (codes "ab") (codes "b") 1) ∷ Put 1 2 (row Ari (codes "aあ") (codes "b") 1)
    ∷ Put 65536 2 (row Nasi (codes "a") (codes "b") 1) ∷ Put 1 (2 ^ 64) (row Nasi (codes "a") (codes "b") 1) ∷ [])
    ≡ false ∷ true ∷ true ∷ false ∷ false ∷ false ∷ false ∷ false ∷ true ∷ false ∷ false ∷ false ∷ []
unfolding lib.Utf8.encode
sound_puts = refl

-- a key, one that is none, one without its letter, one of a number that is no character, and numbers that are not held
sound_drops : map is_sound (
    Drop 1 0 (key Nasi (codes "あ")) ∷ Drop 1 2 (key Nasi []) ∷ Drop 1 2 (key Nasi (codes "a b"))
    ∷ Drop 1 2 (key Ari (codes "あ")) ∷ Drop 1 2 (key Ari (codes "あa")) ∷ Drop 1 2 (key Nasi (55296 ∷ []))
    ∷ Drop 65536 2 (key Nasi (codes "あ")) ∷ Drop 1 (2 ^ 64) (key Nasi (codes "あ")) ∷ [])
    ≡ true ∷ false ∷ false ∷ false ∷ true ∷ false ∷ false ∷ false ∷ []
unfolding lib.Utf8.encode
sound_drops = refl

sound_counts : map is_sound (SetCount 0 0 ∷ SetCount 65535 (2 ^ 64 - 1) ∷ SetCount 65536 0
    ∷ SetCount 0 (2 ^ 64) ∷ []) ≡ true ∷ true ∷ false ∷ false ∷ []
sound_counts = refl

-- a note, one behind a count of 0, of no key, of no word, of a number that is no character, and of numbers that are not
-- held
sound_notes : map is_sound (
    Note 1 1 (key Nasi (codes "あ")) (cand (codes "亜") (codes "n"))
    ∷ Note 1 0 (key Nasi (codes "あ")) (cand (codes "亜") []) ∷ Note 1 1 (key Nasi []) (cand (codes "亜") [])
    ∷ Note 1 1 (key Nasi (codes "あ")) (cand [] (codes "n"))
    ∷ Note 1 1 (key Nasi (codes "あ")) (cand (55296 ∷ []) []) ∷ Note 65536 1 (key Nasi (codes "あ")) (cand (codes "亜") [])
    ∷ Note 1 (2 ^ 64) (key Nasi (codes "あ")) (cand (codes "亜") []) ∷ [])
    ≡ true ∷ false ∷ false ∷ false ∷ false ∷ false ∷ false ∷ []
unfolding lib.Utf8.encode
sound_notes = refl

-- a list of one book, of none, of nine and of the most; with a book twice; and of numbers that are not held
sound_lists : map is_sound (
    SetList 1 (0 ∷ []) ∷ SetList 1 [] ∷ SetList 1 (1 ∷ 2 ∷ 3 ∷ 4 ∷ 5 ∷ 6 ∷ 7 ∷ 8 ∷ 9 ∷ [])
    ∷ SetList 65535 (1 ∷ 2 ∷ 3 ∷ 4 ∷ 5 ∷ 6 ∷ 7 ∷ 65535 ∷ []) ∷ SetList 1 (7 ∷ 0 ∷ 7 ∷ []) ∷ SetList 65536 (7 ∷ [])
    ∷ SetList 1 (7 ∷ 65536 ∷ []) ∷ [])
    ≡ true ∷ false ∷ false ∷ true ∷ false ∷ false ∷ false ∷ []
sound_lists = refl

-- What records leave

abbrev one_row : State
one_row =
    record { books = record { number = 1; count = 2; rows = row Nasi (codes "b") (codes "x") 2 ∷ [] } ∷ []; lists = [] }

-- a row beside another, one in its place, and one in another book; a row taken out, and one that is not there; a count,
-- and one of another book; and a count of 0, which leaves no book
states : map (state_told one_row) (
    Put 1 3 (row Nasi (codes "a") (codes "y") 1) ∷ Put 1 4 (row Nasi (codes "b") (codes "y") 3)
    ∷ Put 0 1 (row Nasi (codes "b") (codes "y") 1)
    ∷ Drop 1 2 (key Nasi (codes "b")) ∷ Drop 1 3 (key Nasi (codes "a")) ∷ Drop 2 0 (key Nasi (codes "b"))
    ∷ SetCount 1 5 ∷ SetCount 2 1 ∷ SetCount 2 0 ∷ [])
    ≡ record {
      books =
          record {
            number = 1;
            count = 3;
            rows = row Nasi (codes "a") (codes "y") 1 ∷ row Nasi (codes "b") (codes "x") 2 ∷ [];
          } ∷ [];
      lists = [];
    }
    ∷ record {
      books = record { number = 1; count = 4; rows = row Nasi (codes "b") (codes "y") 3 ∷ [] } ∷ [];
      lists = [];
    }
    ∷ record {
      books = record { number = 0; count = 1; rows = row Nasi (codes "b") (codes "y") 1 ∷ [] } ∷ one_row.books;
      lists = [];
    }
    ∷ record { books = record { number = 1; count = 2; rows = [] } ∷ []; lists = [] }
    ∷ record {
      books = record { number = 1; count = 3; rows = row Nasi (codes "b") (codes "x") 2 ∷ [] } ∷ [];
      lists = [];
    }
    ∷ one_row
    ∷ record {
      books = record { number = 1; count = 5; rows = row Nasi (codes "b") (codes "x") 2 ∷ [] } ∷ [];
      lists = [];
    }
    ∷ record {
      books =
          record { number = 1; count = 2; rows = row Nasi (codes "b") (codes "x") 2 ∷ [] }
          ∷ record { number = 2; count = 1; rows = [] } ∷ [];
      lists = [];
    }
    ∷ one_row ∷ []
unfolding lib.Utf8.encode
states = refl

-- a note stands at its candidate, whose row has the stamp of the change, and may follow where its row is there
noted_state : state_told one_row (Note 1 3 (key Nasi (codes "b")) (cand (codes "x") (codes "n")))
    ≡ record {
      books =
          record {
            number = 1;
            count = 3;
            rows = record (row Nasi (codes "b") [] 3) { cands = cand (codes "x") (codes "n") ∷ [] } ∷ [];
          } ∷ [];
      lists = [];
    }
unfolding lib.Utf8.encode
noted_state = refl

may_follow_row : map (may_follow one_row) (
    Note 1 3 (key Nasi (codes "b")) (cand (codes "x") (codes "n"))
    ∷ Note 1 3 (key Nasi (codes "a")) (cand (codes "x") [])
    ∷ Note 2 3 (key Nasi (codes "b")) (cand (codes "x") []) ∷ Drop 1 3 (key Nasi (codes "a"))
    ∷ SetList 1 (0 ∷ []) ∷ [])
    ≡ true ∷ false ∷ false ∷ true ∷ true ∷ []
unfolding lib.Utf8.encode
may_follow_row = refl

-- Changes

-- the first learning of a word, and one in a book that has changed, whose row has another candidate; a purge; and
-- a learning taken back, without a row before and with one, neither of which raises the count; a note of a row that is
-- there, and one of a row that is not, which is made with it
first_change : change_told empty_state (Learn 1 (key Nasi (codes "かんじ")) None (record { word = codes "漢字"; note = [] }))
    ≡ Some (Put 1 1 (row Nasi (codes "かんじ") (codes "漢字") 1))
unfolding lib.Utf8.encode
first_change = refl

changes : map (change_told one_row) (
    Lookup 1 (key Nasi (codes "b")) None ∷ Complete 1 (codes "b")
    ∷ Learn 1 (key Nasi (codes "b")) None (record { word = codes "y"; note = [] })
    ∷ Purge 1 (key Nasi (codes "b")) (codes "x")
    ∷ Unlearn (record { book = 1; key = key Nasi (codes "b"); stamp = 2; before = None })
    ∷ Unlearn (record {
      book = 1;
      key = key Nasi (codes "b");
      stamp = 2;
      before = Some (row Nasi (codes "b") (codes "z") 1);
    })
    ∷ Annotate 1 (key Nasi (codes "b")) (cand (codes "x") (codes "n"))
    ∷ Annotate 1 (key Nasi (codes "a")) (cand (codes "x") (codes "n")) ∷ Share 5 (7 ∷ 0 ∷ []) ∷ [])
    ≡ None ∷ None
    ∷ Some (Put 1 3 (record {
      key = key Nasi (codes "b");
      cands = record { word = codes "y"; note = [] } ∷ record { word = codes "x"; note = [] } ∷ [];
      blocks = [];
      hides = [];
      stamp = 3;
    }))
    ∷ Some (Put 1 3 (record {
      key = key Nasi (codes "b");
      cands = [];
      blocks = [];
      hides = codes "x" ∷ [];
      stamp = 3;
    }))
    ∷ Some (Drop 1 2 (key Nasi (codes "b")))
    ∷ Some (Put 1 2 (row Nasi (codes "b") (codes "z") 1))
    ∷ Some (Note 1 3 (key Nasi (codes "b")) (cand (codes "x") (codes "n")))
    ∷ Some (Put 1 3 (record (row Nasi (codes "a") [] 3) { cands = cand (codes "x") (codes "n") ∷ [] }))
    ∷ Some (SetList 5 (7 ∷ 0 ∷ [])) ∷ []
unfolding lib.Utf8.encode
changes = refl
