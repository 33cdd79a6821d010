-- Where the record of a change goes, where the live file ends behind it, and what answers tell of the room that there
-- was, at small examples, each worked out by hand.
use Rattle.std.proofs.Common.{◌≡◌, ℕ, ⊎_elim, None, List, [], ◌∷◌, codes, map, refl, arith, inl, inr, lit≤, lit<}
use Rattle.exact_readers.specs.Numbers.{number_bytes}
use Rattle.skk_calls.specs.declared.answer.Answer.{Answer}
use Rattle.skk_calls.specs.declared.answer.Answer.TheVariants.{Done, Refused}
use Rattle.skk_calls.specs.declared.answer.Refusal.TheVariants.{Memory, Disk, JournalFull}
use Rattle.skk_calls.specs.declared.answer.Reply.TheVariants.{Learned, Unchanged}
use Rattle.skk_calls.specs.declared.call.Call.{Call}
use Rattle.skk_calls.specs.declared.call.Call.TheVariants.{Annotate, Learn}
use Rattle.skk_calls.specs.declared.entry.Entry.{Entry}
use Rattle.skk_calls.specs.Dictionary.{after}
use Rattle.skk_calls.specs.Histories.{Opening, need, tight}
use Rattle.skk_calls.specs.Rows.{Row}
use Rattle.skk_calls.specs.States.{State, empty_state}
use Rattle.skk_disk.specs.declared.which.Which.TheVariants.{A}
use Rattle.skk_journal.specs.declared.live.Doubt.TheVariants as doubts
use Rattle.skk_journal.specs.declared.live.Idle.TheVariants as idles
use Rattle.learned_store.specs.declared.room.Room.{Room}
use Rattle.learned_store.specs.declared.room.Room.TheVariants.{Behind, Compacted, Full}
use Rattle.learned_store.specs.Limits.{HadRoom, AllHadRoom}
use Rattle.learned_store.specs.Rooms.{IsRoom, goes_behind}
use Rattle.learned_store.specs.Served.{end_added, version_added}
use Rattle.learned_store.specs.Stores.{OpenStore}
use Rattle.learned_store.proofs.Limits.{had-none}
use Rattle.learned_store.proofs.SmallFiles.{row, row_a, state, learn}

-- 漢字 is learnt for かんじ in book 1, and the states after the first learning and the second one
abbrev kanji : ℕ → Row
kanji stamp = row (codes "かんじ") (codes "漢字") stamp

abbrev learn_kanji : Call
learn_kanji = Learn 1 (kanji 1).key None (record { word = codes "漢字"; note = [] })

abbrev one : State
one = state 1 (kanji 1 ∷ [])

abbrev two : State
two = state 2 (kanji 2 ∷ [])

learnings : (after empty_state learn_kanji ≡ one) × (after one learn_kanji ≡ two)
unfolding lib.Utf8.encode
learnings = (refl, refl)

-- a learning needs 43 bytes, and a file of either state ends at 61 at least
numbers : (map (λ state. need state learn_kanji) (empty_state ∷ one ∷ two ∷ []) ≡ 43 ∷ 43 ∷ 43 ∷ [])
    × (map tight (empty_state ∷ one ∷ two ∷ []) ≡ 18 ∷ 61 ∷ 61 ∷ [])
unfolding lib.Utf8.encode
numbers = (refl, refl)

-- the record of the row that two learnings leave
abbrev compaction : List ℕ
compaction =
    1 ∷ 38 ∷ 0 ∷ 0 ∷ 0 ∷ 1 ∷ 1 ∷ 0 ∷ 2 ∷ 0 ∷ 0 ∷ 0 ∷ 0 ∷ 0 ∷ 0 ∷ 0 ∷ 2 ∷ 0 ∷ 0 ∷ 0 ∷ 0 ∷ 0 ∷ 0 ∷ 0 ∷ 0
    ∷ 227 ∷ 129 ∷ 139 ∷ 227 ∷ 130 ∷ 147 ∷ 227 ∷ 129 ∷ 152 ∷ 32 ∷ 47 ∷ 230 ∷ 188 ∷ 162 ∷ 229 ∷ 173 ∷ 151 ∷ 47 ∷ []

-- a learning at a state, under a limit, where the live file is one of version 1 and ends here
abbrev Goes : State → ℕ → ℕ → Room → Type 0
Goes state end limit room = IsRoom state (goes_behind limit 1 end 1 43) limit 43 room

-- three learnings under the limit 110: the first two go behind what is there, and the third one needs a compaction;
-- two under the limit 64: the second one has no room
learnings_go : Goes empty_state 18 110 Behind × Goes one 61 110 Behind × Goes two 104 110 (Compacted compaction)
    × Goes empty_state 18 64 Behind × Goes one 61 64 (Full 61)
unfolding lib.Utf8.encode number_bytes
learnings_go = (refl, refl, (refl, lit≤ tt, refl), refl, (refl, refl, lit< tt))

-- where the file of two learnings ends at 104, a third one goes behind it just under the limit 147, and behind a
-- compaction just under the limit 104
edges : Goes two 104 147 Behind × Goes two 104 146 (Compacted compaction) × Goes two 104 104 (Compacted compaction)
    × Goes two 104 103 (Full 61)
unfolding lib.Utf8.encode number_bytes
edges = (refl, (refl, lit≤ tt, refl), (refl, lit≤ tt, refl), (refl, refl, lit< tt))

no_room : (¬ Goes two 104 146 Behind) × (¬ Goes two 104 147 (Compacted compaction))
    × (¬ Goes two 104 103 (Compacted compaction)) × (¬ Goes two 104 110 (Compacted []))
    × (¬ Goes two 104 104 (Full 61)) × (¬ Goes two 104 103 (Full 104))
unfolding lib.Utf8.encode number_bytes
no_room = (
  λ is. cc is,
  λ is. cc is.0,
  λ is. omega (arith, is.1),
  λ is. cc is.2,
  λ is. omega (arith, is.2),
  λ is. omega (arith, is.1),
)

-- a store of a state under a limit, whose live file is of this version and ends here
abbrev store : ℕ → State → ℕ → ℕ → OpenStore ℕ
store limit state version end = record {
  journal = record {
    disk = 0;
    newest = 3;
    live = record { file = A; version = version; generation = 1 };
    end = end;
    idle = idles.Loose;
    doubt = doubts.Calm;
  };
  state = state;
  files = [];
  limit = limit;
}

-- where the live file ends behind these learnings, whatever its version is
ends : (end_added (store 110 empty_state 1 18) learn_kanji ≡ 61) × (end_added (store 110 one 1 61) learn_kanji ≡ 104)
    × (end_added (store 110 two 2 104) learn_kanji ≡ 104) × (end_added (store 147 two 2 104) learn_kanji ≡ 147)
    × (end_added (store 146 two 1 104) learn_kanji ≡ 104)
unfolding lib.Utf8.encode
ends = (refl, refl, refl, refl, refl)

-- its version behind them: that which it had where they go behind what is there, and else the newest
versions : (version_added (store 110 one 1 61) learn_kanji ≡ 1) × (version_added (store 110 two 1 104) learn_kanji ≡ 3)
    × (version_added (store 147 two 2 104) learn_kanji ≡ 2)
unfolding lib.Utf8.encode
versions = (refl, refl, refl)

-- a note of 漢字 needs 40 bytes. Behind a file of version 1 it needs a compaction, whatever the limit is; behind one of
-- version 2 it goes where it has room. Where no row is there it is learnt with its note, which version 1 has
abbrev note_kanji : Call
note_kanji = Annotate 1 (kanji 1).key (record { word = codes "漢字"; note = codes "書く" })

notes : (need two note_kanji ≡ 40) × (end_added (store 1000 two 1 104) note_kanji ≡ 101)
    × (version_added (store 1000 two 1 104) note_kanji ≡ 3) × (end_added (store 1000 two 2 104) note_kanji ≡ 144)
    × (end_added (store 143 two 2 104) note_kanji ≡ 101) × (need empty_state note_kanji ≡ 50)
    × (version_added (store 1000 empty_state 1 18) note_kanji ≡ 1)
unfolding lib.Utf8.encode
notes = (refl, refl, refl, refl, refl, refl, refl)

-- What answers tell

-- the learning of b for a needs 30 bytes, so that behind no row, whose file ends at 18, it has room just under the
-- limit 48, and behind itself just under the limit 78, wherever the live file ended when it was opened
abbrev over : ℕ → Opening
over limit = record { files = []; state = empty_state; end = 1000; limit = limit; time = 3; faults = 2 }

abbrev says : Answer → Entry
says given = record { number = 0; call = learn; answer = given }

abbrev Had : ℕ → List Entry → Answer → Type 0
Had limit history given = HadRoom (over limit) history learn given

abbrev learned : Answer
learned = Done (Learned (record { book = 1; key = row_a.key; stamp = 1; before = None }))

abbrev full : Answer
full = Refused (JournalFull 18 30 47)

room_told : Had 48 [] learned × (¬ Had 47 [] learned) × Had 78 (says learned ∷ []) learned
    × (¬ Had 77 (says learned ∷ []) learned) × Had 78 (says learned ∷ says learned ∷ []) learned
    × Had 48 (says full ∷ []) learned × Had 0 [] (Done Unchanged) × Had 0 [] (Refused Memory) × Had 0 [] full
unfolding lib.Utf8.encode
room_told = (
  λ changed. lit≤ tt,
  λ had. omega (arith, had refl),
  λ changed. lit≤ tt,
  λ had. omega (arith, had refl),
  λ changed. lit≤ tt,
  λ changed. lit≤ tt,
  λ changed. cc,
  tt,
  tt,
)

-- a disk fails a change that has room, or one behind a change in doubt, which a change that was done ends
failed_told : Had 48 [] (Refused Disk) × (¬ Had 47 [] (Refused Disk)) × Had 47 (says (Refused Disk) ∷ []) (Refused Disk)
    × (¬ Had 77 (says (Refused Disk) ∷ says learned ∷ []) (Refused Disk))
    × (¬ Had 47 (says (Refused Memory) ∷ says full ∷ []) (Refused Disk))
unfolding lib.Utf8.encode
failed_told = (
  inr (lit≤ tt),
  λ had. ⊎_elim (λ doubts. doubts refl) (λ fits. omega (arith, fits)) had,
  inl (λ none. cc),
  λ had. ⊎_elim (λ doubts. doubts refl) (λ fits. omega (arith, fits)) had,
  λ had. ⊎_elim (λ doubts. doubts refl) (λ fits. omega (arith, fits)) had,
)

-- each entry of a history is asked, at its place
all_told : AllHadRoom (over 0) [] × (¬ AllHadRoom (over 47) (says learned ∷ says (Done Unchanged) ∷ []))
    × (¬ AllHadRoom (over 77) (says learned ∷ says learned ∷ []))
unfolding lib.Utf8.encode
all_told = (
  had-none (over 0),
  λ all. omega (arith, all [] (says learned) (says (Done Unchanged) ∷ []) refl refl),
  λ all. omega (arith, all (says learned ∷ []) (says learned) [] refl refl),
)
