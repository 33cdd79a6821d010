-- What journals keep with and without a doubt, and what a call leaves in doubt, at small examples, each worked out by
-- hand.
use Rattle.std.proofs.Common.{◌≡◌, ℕ, Option, None, Some, List, [], ◌∷◌, ◌++◌, map, All, Contains, ap, sym, subst, refl}
use Rattle.std.proofs.Common.{arith, inl, inr, lit≤, lit<}
use Rattle.std.proofs.lemmas.List.Elements.{All-nil, All-cons, Contains-append_cases, Contains-push_cases}
use Rattle.exact_readers.specs.Numbers.{number_bytes, number_of, number_step}
use Rattle.skk_calls.specs.declared.answer.Answer.{Answer}
use Rattle.skk_calls.specs.declared.answer.Answer.TheVariants.{Done, Refused}
use Rattle.skk_calls.specs.declared.answer.Refusal.TheVariants.{Memory, Disk, JournalFull}
use Rattle.skk_calls.specs.declared.answer.Reply.TheVariants.{Learned, Unchanged}
use Rattle.skk_calls.specs.declared.book.NumberedBook.{NumberedBook}
use Rattle.skk_calls.specs.States.{State, empty_state}
use Rattle.skk_disk.specs.declared.disk.Disk.{Ghosts}
use Rattle.skk_disk.specs.Image.{Image}
use Rattle.skk_disk.specs.declared.which.Which.TheVariants.{A}
use Rattle.skk_journal.specs.declared.live.Doubt.{Doubt}
use Rattle.skk_journal.specs.declared.live.Doubt.TheVariants as doubts
use Rattle.skk_journal.specs.declared.live.Idle.TheVariants as idles
use Rattle.skk_journal.specs.Contents.{Contents, no_records}
use Rattle.skk_journal.specs.Filling.{filled_bytes}
use Rattle.skk_journal.specs.Images.{Each}
use Rattle.skk_journal.specs.Journal.{OpenJournal, Rests, Doubts, Holds, HoldsDoubt}
use Rattle.skk_journal.specs.Records.{IsSized, framed}
use Rattle.learned_store.specs.declared.form.PayloadForm.TheVariants.{Put}
use Rattle.learned_store.specs.Payloads.{Says}
use Rattle.learned_store.specs.Recovered.{Leave}
use Rattle.learned_store.specs.Stands.{KeepsAmong, RecoverAmong}
use Rattle.learned_store.specs.Stores.{RecoversOneOf}
use Rattle.learned_store.specs.Stores.{Keeps, KeepsOneOf, Adds, IsCompaction, with_doubt, states_within, DoubtAfter}
use Rattle.learned_store.proofs.SmallFiles.{row_a, row_c, first, second, old, state, pair, begun, file, has, learn}
use Rattle.learned_store.proofs.SmallFiles.{first_leaves, two_leave, sized_one, sized_two}

-- Journals

-- a disk whose one image is this one, and a journal of it whose first file is live with the generation 1
abbrev lasting : Ghosts Image
lasting = record {
  tells = ⊥;
  faults = λ disk. 0;
  time = λ disk. 0;
  seen = λ disk. disk;
  left_since = λ disk since image. image ≡ disk;
}

abbrev journal : Image → ℕ → Doubt → OpenJournal Image
journal disk end doubt =
    record {
      disk = disk;
      newest = 3;
      live = record { file = A; version = 1; generation = 1 };
      end = end;
      idle = idles.Loose;
      doubt = doubt;
    }

abbrev KeepsThat : OpenJournal Image → State → Option State → Type 0
KeepsThat = Keeps lasting

alone : (P : Image → Type 0) (disk : Image) → P disk → Each (lasting.left_since disk 0) P
alone P disk holds image is = subst P (sym is) holds

-- in no doubt a journal has just the records of the state
abbrev calm : OpenJournal Image
calm = journal (pair (file 1 (first ∷ [])) []) 48 doubts.Calm

calm_rests : Rests lasting calm (old (first ∷ []))
unfolding number_bytes
calm_rests = record {
  calm = refl;
  version = refl;
  end = refl;
  images =
      alone (Holds 3 calm.live calm.idle (old (first ∷ []))) calm.disk
      (record { this = has 1 (first ∷ []) (lit≤ tt) sized_one; that = inl (lit≤ tt) });
}

-- a record more stands behind a gate, and with it the state after it counts
abbrev staged : OpenJournal Image
staged =
    journal (pair (begun 1 (first ∷ []) ++ 7 ∷ 25 ∷ 0 ∷ 0 ∷ 0 ∷ (second ++ 0 ∷ [])) []) 48 doubts.Record

staged_doubts : Doubts lasting staged (old (first ∷ [])) (old (first ∷ second ∷ []))
unfolding number_bytes
staged_doubts = record {
  doubt = refl;
  version = refl;
  end = refl;
  images =
      alone (HoldsDoubt 3 staged.live staged.idle doubts.Record (old (first ∷ [])) (old (first ∷ second ∷ [])))
      staged.disk
      (record {
        this = (
          second ∷ [],
          refl,
          (
            7,
            record {
              rest = [];
              is = refl;
              right = (lit≤ tt, lit≤ tt);
              told = lit≤ tt;
              sized = sized_one;
              addition = record {
                some = lit< tt;
                sized = All-cons IsSized second [] (lit≤ tt, lit≤ tt) (All-nil IsSized);
              };
            },
          ),
        );
        that = inl (lit≤ tt);
      });
}

-- the other file is filled with the records of a compaction, which leave the same state, and its gate may be open
abbrev written : List ℕ
written =
    1 ∷ 1 ∷ 0 ∷ 2 ∷ 0 ∷ 0 ∷ 0 ∷ 0 ∷ 0 ∷ 0 ∷ 0 ∷ 1 ∷ 0 ∷ 0 ∷ 0 ∷ 0 ∷ 0 ∷ 0 ∷ 0 ∷ 0 ∷ 97 ∷ 32 ∷ 47 ∷ 98 ∷ 47 ∷ []

written_says : Says 3 empty_state written (Put 1 2 row_a)
unfolding lib.Utf8.encode number_bytes
written_says = record { known = refl; sound = refl; counted = lit≤ tt; follows = refl; is = refl }

after_says : Says 3 (state 2 (row_a ∷ [])) second (Put 1 2 row_c)
unfolding lib.Utf8.encode number_bytes
after_says = record { known = refl; sound = refl; counted = lit≤ tt; follows = refl; is = refl }

abbrev compacted_records : Contents
compacted_records = record { version = 3; records = written ∷ second ∷ [] }

written_leave : Leave compacted_records (state 2 (row_a ∷ row_c ∷ []))
unfolding lib.Utf8.encode
written_leave = (Put 1 2 row_a, written_says, (Put 1 2 row_c, after_says, refl))

written_sized : All IsSized (written ∷ second ∷ [])
written_sized = All-cons IsSized written (second ∷ []) (lit≤ tt, lit≤ tt)
    (All-cons IsSized second [] (lit≤ tt, lit≤ tt) (All-nil IsSized))

abbrev filled : OpenJournal Image
filled =
    journal (pair (file 1 (first ∷ second ∷ [])) (filled_bytes 1 3 2 (framed (written ∷ second ∷ [])))) 78 doubts.Idle

filled_doubts : Doubts lasting filled (old (first ∷ second ∷ [])) compacted_records
unfolding number_bytes
filled_doubts = record {
  doubt = refl;
  version = refl;
  end = refl;
  images =
      alone (HoldsDoubt 3 filled.live filled.idle doubts.Idle (old (first ∷ second ∷ [])) compacted_records)
      filled.disk
      (record {
        this = has 1 (first ∷ second ∷ []) (lit≤ tt) sized_two;
        that = ((lit≤ tt, lit≤ tt), lit≤ tt, written_sized, (1, refl));
      });
}

keeps : KeepsThat calm (state 1 (row_a ∷ [])) None
    × KeepsThat staged (state 1 (row_a ∷ [])) (Some (state 2 (row_a ∷ row_c ∷ [])))
    × KeepsThat filled (state 2 (row_a ∷ row_c ∷ [])) (Some (state 2 (row_a ∷ row_c ∷ [])))
keeps = (
  (refl, old (first ∷ []), first_leaves, calm_rests),
  (refl, old (first ∷ []), old (first ∷ second ∷ []), first_leaves, two_leave, staged_doubts),
  (refl, old (first ∷ second ∷ []), compacted_records, two_leave, written_leave, filled_doubts),
)

-- a journal in doubt keeps no state alone, and one in no doubt has none beside its own
keeps_not : (kept : State) → (¬ KeepsThat staged kept None) × (¬ KeepsThat filled kept None)
    × ((other : State) → ¬ KeepsThat calm kept (Some other))
keeps_not kept = (λ is. cc is.3.calm, λ is. cc is.3.calm, λ other is. cc is.5.doubt)

-- one of these is in doubt, or nothing where nothing is among them
keeps_one : KeepsOneOf lasting calm (state 1 (row_a ∷ [])) (Some empty_state ∷ None ∷ [])
    × KeepsOneOf lasting staged (state 1 (row_a ∷ [])) (Some (state 2 (row_a ∷ row_c ∷ [])) ∷ [])
    × (¬ KeepsOneOf lasting calm (state 1 (row_a ∷ [])) [])
keeps_one = (
  (None, (1, lit< tt, refl), keeps.0),
  (Some (state 2 (row_a ∷ row_c ∷ [])), (0, lit< tt, refl), keeps.1),
  λ is. omega (arith, is.1.1),
)

-- what is in doubt is one of these states, or nothing is
among : KeepsAmong lasting staged (state 1 (row_a ∷ [])) (empty_state ∷ state 2 (row_a ∷ row_c ∷ []) ∷ [])
    × KeepsAmong lasting calm (state 1 (row_a ∷ [])) []
among = ((Some (state 2 (row_a ∷ row_c ∷ [])), (1, lit< tt, refl), keeps.1), (None, tt, keeps.0))

none_among : (kept : State) → ¬ KeepsAmong lasting staged kept []
none_among kept (None, here, keeps) = cc keeps.3.calm
none_among kept (Some other, here, keeps) = omega (arith, here.1)

-- images that are opened as a state, or as one in doubt beside it
recover_among : RecoverAmong empty_state [] (lasting.left_since (pair [] []) 0)
    × RecoverAmong empty_state (state 1 (row_a ∷ []) ∷ []) (lasting.left_since calm.disk 0)
unfolding number_bytes number_of number_step
recover_among = (
  (
    None,
    tt,
    alone (RecoversOneOf (empty_state ∷ [])) (pair [] [])
        (empty_state, (0, lit< tt, refl), (no_records 3, refl, refl)),
  ),
  (
    Some (state 1 (row_a ∷ [])),
    (0, lit< tt, refl),
    alone (RecoversOneOf (empty_state ∷ state 1 (row_a ∷ []) ∷ [])) calm.disk (
      state 1 (row_a ∷ []),
      (1, lit< tt, refl),
      (old (first ∷ []), has 1 (first ∷ []) (lit≤ tt) sized_one, first_leaves),
    ),
  ),
)

-- the bytes of records that leave a state, and those that leave another
compactions : IsCompaction empty_state [] × IsCompaction (state 2 (row_a ∷ row_c ∷ [])) (
    1 ∷ 25 ∷ 0 ∷ 0 ∷ 0 ∷ (written ++ 1 ∷ 25 ∷ 0 ∷ 0 ∷ 0 ∷ second))
unfolding number_bytes
compactions = (
  ([], All-nil IsSized, refl, refl),
  (written ∷ second ∷ [], written_sized, refl, written_leave),
)

-- a payload that adds stands behind the records of the state before it
added : (after : State) → (Adds 1 first empty_state after → Leave (old (first ∷ [])) after)
    × (Adds 1 second (state 1 (row_a ∷ [])) after → Leave (old (first ∷ second ∷ [])) after)
added after = (λ adds. adds (old []) refl refl, λ adds. adds (old (first ∷ [])) refl first_leaves)

-- Calls

abbrev learnt : State
learnt = state 1 (row_a ∷ [])

abbrev learned : Answer
learned = Done (Learned (record { book = 1; key = row_a.key; stamp = 1; before = None }))

-- another state
abbrev other : State
other = record { books = record { number = 2; count = 7; rows = [] } ∷ []; lists = [] }

abbrev full : Answer
full = Refused (JournalFull 18 30 47)

-- the state and the one in doubt beside it
beside : map (with_doubt learnt) (None ∷ Some other ∷ Some learnt ∷ [])
    ≡ (learnt ∷ []) ∷ (learnt ∷ other ∷ []) ∷ (learnt ∷ learnt ∷ []) ∷ []
beside = refl

-- the state before and the one in doubt, and the one after it where the call changed the state or a disk failed
within : map (states_within empty_state (Some other) learn)
    (learned ∷ Done Unchanged ∷ Refused Memory ∷ Refused Disk ∷ full ∷ [])
    ≡ (empty_state ∷ other ∷ learnt ∷ []) ∷ (empty_state ∷ other ∷ []) ∷ (empty_state ∷ other ∷ [])
    ∷ (empty_state ∷ other ∷ learnt ∷ []) ∷ (empty_state ∷ other ∷ []) ∷ []
unfolding lib.Utf8.encode
within = refl

within_none : map (states_within empty_state None learn)
    (learned ∷ Done Unchanged ∷ Refused Memory ∷ Refused Disk ∷ full ∷ [])
    ≡ (empty_state ∷ learnt ∷ []) ∷ (empty_state ∷ []) ∷ (empty_state ∷ []) ∷ (empty_state ∷ learnt ∷ [])
    ∷ (empty_state ∷ []) ∷ []
unfolding lib.Utf8.encode
within_none = refl

-- what is in doubt after a call behind a state in doubt: where a disk failed also the state itself
abbrev Leaves : Answer → Option State → Type 0
Leaves given now = DoubtAfter empty_state (Some other) learn given now

doubts_after : Leaves learned None × Leaves (Done Unchanged) (Some other) × Leaves (Refused Memory) (Some other)
    × Leaves (Refused Disk) (Some other) × Leaves (Refused Disk) None × Leaves (Refused Disk) (Some empty_state)
    × Leaves (Refused Disk) (Some learnt) × Leaves full None
unfolding lib.Utf8.encode
doubts_after = (
  refl,
  refl,
  refl,
  (0, lit< tt, refl),
  (1, lit< tt, refl),
  (2, lit< tt, refl),
  (3, lit< tt, refl),
  refl,
)

-- what is neither the first one nor among the rest is not among all
apart : {X : Type 0} (x one : X) (rest : List X) → ¬ (x ≡ one) → ¬ Contains rest one → ¬ Contains (x ∷ rest) one
apart x one rest first behind here = elim (Contains-append_cases (x ∷ []) rest one here) [
  | inl is ↦ elim (Contains-push_cases [] x one is) [
    | inl none ↦ absurd (omega (arith, none.1))
    | inr same ↦ first same
  ]
  | inr is ↦ behind is
]

-- a state that is none of those, with the books of two
abbrev fifth : State
fifth = state 5 (row_c ∷ [])

abbrev count_in : Option State → ℕ
count_in None = 100
count_in (Some state) = first_count state.books
  where
    first_count : List NumberedBook → ℕ
    first_count [] = 0
    first_count (book ∷ books) = book.count

no_doubts : (¬ Leaves learned (Some other)) × (¬ Leaves learned (Some learnt)) × (¬ Leaves (Done Unchanged) None)
    × (¬ Leaves (Refused Memory) None) × (¬ Leaves (Refused Disk) (Some fifth)) × (¬ Leaves full (Some other))
    × (¬ Leaves full (Some empty_state))
unfolding lib.Utf8.encode
no_doubts = (
  λ is. cc,
  λ is. cc,
  λ is. cc,
  λ is. cc,
  apart (Some other) (Some fifth) (None ∷ Some empty_state ∷ Some learnt ∷ [])
      (λ same. omega (arith, ap count_in same))
      (apart None (Some fifth) (Some empty_state ∷ Some learnt ∷ []) (λ same. omega (arith, ap count_in same))
      (apart (Some empty_state) (Some fifth) (Some learnt ∷ []) (λ same. omega (arith, ap count_in same))
      (apart (Some learnt) (Some fifth) [] (λ same. omega (arith, ap count_in same))
      (λ is. omega (arith, is.1))))),
  λ is. cc,
  λ is. cc,
)
