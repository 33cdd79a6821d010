-- Lists of books in the learned file, at small examples, each worked out by hand: what their records leave, what a
-- compaction writes of them, where they go, and that they are opened again.
use Rattle.std.proofs.Common.{◌≡◌, ℕ, true, false, List, [], ◌∷◌, codes, map, refl}
use Rattle.exact_readers.specs.Numbers.{number_bytes}
use Rattle.skk_calls.specs.declared.book_list.TypistList.{TypistList}
use Rattle.skk_calls.specs.declared.call.Call.{Call}
use Rattle.skk_calls.specs.declared.call.Call.TheVariants.{Share}
use Rattle.skk_calls.specs.Dictionary.{after}
use Rattle.skk_calls.specs.Histories.{need, tight}
use Rattle.skk_calls.specs.Rows.{Row}
use Rattle.skk_calls.specs.States.{State, empty_state}
use Rattle.skk_disk.specs.declared.which.Which.TheVariants.{A}
use Rattle.skk_journal.specs.declared.live.Doubt.TheVariants as doubts
use Rattle.skk_journal.specs.declared.live.Idle.TheVariants as idles
use Rattle.skk_journal.specs.Records.{end_of, framed}
use Rattle.learned_store.specs.declared.form.PayloadForm.TheVariants.{Put, SetCount, SetList}
use Rattle.learned_store.specs.Compacted.{compacted, is_written}
use Rattle.learned_store.specs.Payloads.{Says, payload_of, state_told, version_needed}
use Rattle.learned_store.specs.Recovered.{Leave}
use Rattle.learned_store.specs.Served.{end_added, version_added}
use Rattle.learned_store.specs.Stores.{OpenStore}
use Rattle.learned_store.proofs.SmallFiles.{row}

abbrev listed : ℕ → List ℕ → TypistList
listed typist books = record { typist = typist; books = books }

-- 漢字 is learnt for かんじ in book 1
abbrev kanji : Row
kanji = row (codes "かんじ") (codes "漢字") 1

-- that word, and these lists
abbrev with_lists : List TypistList → State
with_lists lists = record { books = record { number = 1; count = 1; rows = kanji ∷ [] } ∷ []; lists = lists }

-- What records leave

-- the lists stand in order of their typists, each as it was given last, and that of the shared book alone goes; the
-- books and their counts stay
lists_told : map (state_told (with_lists (listed 3 (2 ∷ []) ∷ []))) (
    SetList 1 (7 ∷ 0 ∷ []) ∷ SetList 5 (0 ∷ 7 ∷ []) ∷ SetList 3 (9 ∷ 2 ∷ []) ∷ SetList 3 (0 ∷ []) ∷ SetList 1 (0 ∷ [])
    ∷ [])
    ≡ with_lists (listed 1 (7 ∷ 0 ∷ []) ∷ listed 3 (2 ∷ []) ∷ [])
    ∷ with_lists (listed 3 (2 ∷ []) ∷ listed 5 (0 ∷ 7 ∷ []) ∷ []) ∷ with_lists (listed 3 (9 ∷ 2 ∷ []) ∷ [])
    ∷ with_lists [] ∷ with_lists (listed 3 (2 ∷ []) ∷ []) ∷ []
lists_told = refl

-- Compactions

-- the lists are written behind the books, in order of their typists
abbrev two_lists : List TypistList
two_lists = listed 1 (7 ∷ 0 ∷ []) ∷ listed 258 (772 ∷ []) ∷ []

compactions : map compacted (
    with_lists two_lists ∷ record { books = record { number = 2; count = 3; rows = [] } ∷ []; lists = two_lists }
    ∷ record { books = []; lists = two_lists } ∷ [])
    ≡ (Put 1 1 kanji ∷ SetList 1 (7 ∷ 0 ∷ []) ∷ SetList 258 (772 ∷ []) ∷ [])
    ∷ (SetCount 2 3 ∷ SetList 1 (7 ∷ 0 ∷ []) ∷ SetList 258 (772 ∷ []) ∷ [])
    ∷ (SetList 1 (7 ∷ 0 ∷ []) ∷ SetList 258 (772 ∷ []) ∷ []) ∷ []
compactions = refl

-- their bytes: a gate, the length of the payload in four bytes, and the payload
list_records : framed (map payload_of (compacted (record { books = []; lists = two_lists })))
    ≡ 1 ∷ 8 ∷ 0 ∷ 0 ∷ 0 ∷ 5 ∷ 1 ∷ 0 ∷ 2 ∷ 7 ∷ 0 ∷ 0 ∷ 0
    ∷ 1 ∷ 6 ∷ 0 ∷ 0 ∷ 0 ∷ 5 ∷ 2 ∷ 1 ∷ 1 ∷ 4 ∷ 3 ∷ []
unfolding number_bytes
list_records = refl

-- 18 bytes without a book, 13 more for two books of a typist, 11 more for one, and 43 more for the word
tight_ends : map tight (
    record { books = []; lists = listed 1 (7 ∷ 0 ∷ []) ∷ [] } ∷ record { books = []; lists = two_lists }
    ∷ with_lists two_lists ∷ [])
    ≡ 31 ∷ 42 ∷ 85 ∷ []
unfolding lib.Utf8.encode
tight_ends = refl

compacted_end : end_of (map payload_of (compacted (with_lists two_lists))) ≡ 85
unfolding lib.Utf8.encode number_bytes
compacted_end = refl

-- lists of typists and books whose numbers are not held, and of no books, may not be written
written_lists : map (λ list. is_written (with_lists (list ∷ []))) (
    listed 1 (7 ∷ 0 ∷ []) ∷ listed 65536 (7 ∷ []) ∷ listed 1 (65536 ∷ []) ∷ listed 1 [] ∷ listed 1 (7 ∷ 7 ∷ []) ∷ [])
    ≡ true ∷ false ∷ false ∷ false ∷ false ∷ []
unfolding lib.Utf8.encode
written_lists = refl

-- Changes

abbrev share : Call
share = Share 1 (7 ∷ 0 ∷ [])

shared : after empty_state share ≡ record { books = []; lists = listed 1 (7 ∷ 0 ∷ []) ∷ [] }
shared = refl

-- a list of two books needs 13 bytes, and the third version
needed : (need empty_state share ≡ 13) × (version_needed empty_state share ≡ 3)
needed = (refl, refl)

-- a store of a state under a limit, whose live file is of this version and ends here
abbrev store : ℕ → State → ℕ → ℕ → OpenStore ℕ
store limit state version end = record {
  journal = record {
    disk = 0;
    newest = 3;
    live = record { file = A; version = version; generation = 1 };
    end = end;
    idle = idles.Loose;
    doubt = doubts.Calm;
  };
  state = state;
  files = [];
  limit = limit;
}

-- behind a file of version 3 it goes where it has room, just under the limit 117; behind one of the versions before it
-- needs a compaction, whatever the limit is
ends : (end_added (store 1000 empty_state 3 18) share ≡ 31) × (end_added (store 117 (with_lists []) 3 104) share ≡ 117)
    × (end_added (store 116 (with_lists []) 3 104) share ≡ 74)
    × (end_added (store 1000 (with_lists []) 2 104) share ≡ 74)
    × (end_added (store 1000 (with_lists []) 1 104) share ≡ 74)
unfolding lib.Utf8.encode
ends = (refl, refl, refl, refl, refl)

versions : (version_added (store 117 (with_lists []) 3 104) share ≡ 3)
    × (version_added (store 1000 (with_lists []) 2 104) share ≡ 3)
    × (version_added (store 1000 (with_lists []) 1 104) share ≡ 3)
unfolding lib.Utf8.encode
versions = (refl, refl, refl)

-- Files

-- two lists of a typist, one behind another, leave the last
abbrev first_list : List ℕ
first_list = 5 ∷ 1 ∷ 0 ∷ 2 ∷ 7 ∷ 0 ∷ 0 ∷ 0 ∷ []

abbrev second_list : List ℕ
second_list = 5 ∷ 1 ∷ 0 ∷ 1 ∷ 4 ∷ 3 ∷ []

first_says : Says 3 empty_state first_list (SetList 1 (7 ∷ 0 ∷ []))
unfolding number_bytes
first_says = record { known = refl; sound = refl; counted = tt; follows = refl; is = refl }

second_says : Says 3 (after empty_state share) second_list (SetList 1 (772 ∷ []))
unfolding number_bytes
second_says = record { known = refl; sound = refl; counted = tt; follows = refl; is = refl }

left : Leave (record { version = 3; records = first_list ∷ second_list ∷ [] })
    (record { books = []; lists = listed 1 (772 ∷ []) ∷ [] })
left = (SetList 1 (7 ∷ 0 ∷ []), first_says, (SetList 1 (772 ∷ []), second_says, refl))
