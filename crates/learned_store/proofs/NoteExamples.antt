-- What the notes of a dictionary's history go on to, and what they stand for, at small examples.
use Rattle.std.proofs.Common.{◌≡◌, ℕ, ◌<◌, true, None, Some, List, [], ◌∷◌, map, refl, arith, lit≤, lit<}
use Rattle.std.proofs.lemmas.List.Elements.{All-nil, All-cons}
use Rattle.exact_readers.specs.Numbers.{number_bytes, number_of, number_step}
use Rattle.skk_calls.specs.declared.answer.Answer.{Answer}
use Rattle.skk_calls.specs.declared.answer.Answer.TheVariants.{Done, Refused}
use Rattle.skk_calls.specs.declared.answer.Refusal.TheVariants.{Memory, Disk, JournalFull}
use Rattle.skk_calls.specs.declared.answer.Reply.TheVariants.{Learned}
use Rattle.skk_calls.specs.declared.chronicle.Noted.{Noted}
use Rattle.skk_calls.specs.declared.chronicle.Noted.TheVariants.{Opened, Entered}
use Rattle.skk_calls.specs.States.{State, empty_state}
use Rattle.skk_calls.specs.Tallies.{empty_tally}
use Rattle.skk_disk.specs.declared.disk.Disk.{Ghosts}
use Rattle.skk_disk.specs.Image.{Image, empty_image}
use Rattle.skk_disk.specs.declared.which.Which.TheVariants.{B}
use Rattle.skk_journal.specs.declared.live.Doubt.TheVariants as doubts
use Rattle.skk_journal.specs.declared.live.Idle.TheVariants as idles
use Rattle.skk_journal.specs.Contents.{no_records}
use Rattle.learned_store.specs.Payloads.{newest_version}
use Rattle.learned_store.specs.Stands.{time_of, faults_of, left_behind, HasCause, GoOn, IsOneOf, opening_note, Counts}
use Rattle.learned_store.specs.Stands.{RecoversBy, StandsOver}
use Rattle.learned_store.specs.Stores.{opening_now, OpenStore, Recovers}
use Rattle.learned_store.proofs.SmallFiles.{row_a, first, state, pair, file, has, learn, first_leaves, sized_one, old}

-- the state after the learning, the reply that tells so, and another state
abbrev learnt : State
learnt = state 1 (row_a ∷ [])

abbrev learned : Answer
learned = Done (Learned (record { book = 1; key = row_a.key; stamp = 1; before = None }))

abbrev other : State
other = record { books = record { number = 2; count = 7; rows = [] } ∷ []; lists = [] }

abbrev full : Answer
full = Refused (JournalFull 18 30 47)

-- an entry of a time and a count of faults
abbrev entry : Answer → ℕ → ℕ → Noted
entry given time faults = Entered 0 learn given time faults

abbrev opened : Noted
opened = Opened [] empty_state 12 64 3 2

times : map time_of (opened ∷ entry learned 5 4 ∷ []) ≡ 3 ∷ 5 ∷ []
times = refl

faults : map faults_of (opened ∷ entry learned 5 4 ∷ []) ≡ 2 ∷ 4 ∷ []
faults = refl

-- a refusal for the disk has a cause, and nothing else needs one
causes : HasCause 3 (entry (Refused Disk) 5 4) × HasCause 4 (entry (Refused Memory) 5 4)
    × HasCause 4 (entry learned 5 4) × HasCause 4 (entry full 5 4) × HasCause 4 opened
    × (¬ HasCause 4 (entry (Refused Disk) 5 4))
causes = (lit≤ tt, tt, tt, tt, tt, λ is. omega (arith, is))

-- times and counts of faults go on from an opening of time 3 and 2 faults, and end with the last entry
abbrev Goes : List Noted → ℕ → ℕ → Type 0
Goes notes time faults = GoOn 3 2 notes time faults

goes_on : Goes [] 3 2 × Goes (entry learned 3 2 ∷ []) 3 2
    × Goes (entry learned 5 2 ∷ entry (Refused Disk) 5 3 ∷ []) 5 3
goes_on = (
  (refl, refl),
  (lit≤ tt, lit≤ tt, tt, (refl, refl)),
  (lit≤ tt, lit≤ tt, tt, (lit≤ tt, lit≤ tt, lit≤ tt, (refl, refl))),
)

goes_not : (¬ Goes [] 4 2) × (¬ Goes [] 3 3) × (¬ Goes (entry learned 2 2 ∷ []) 2 2)
    × (¬ Goes (entry learned 3 1 ∷ []) 3 1) × (¬ Goes (entry (Refused Disk) 5 2 ∷ []) 5 2)
    × (¬ Goes (entry learned 5 4 ∷ entry learned 4 4 ∷ []) 4 4) × (¬ Goes (entry learned 5 4 ∷ []) 5 2)
goes_not = (
  λ is. omega (arith, is.0),
  λ is. omega (arith, is.1),
  λ is. omega (arith, is.0),
  λ is. omega (arith, is.1),
  λ is. omega (arith, is.2),
  λ is. omega (arith, is.3.0),
  λ is. omega (arith, is.3.1),
)

-- a state in doubt is one of these, where there is one
one_of : IsOneOf None [] × IsOneOf (Some other) (learnt ∷ other ∷ []) × (¬ IsOneOf (Some other) [])
one_of = (tt, (1, lit< tt, refl), λ is. omega (arith, is.1))

-- the states that a stop may leave behind notes: those after each change in doubt too
left : map (left_behind empty_state) (
    (opened ∷ []) ∷ (opened ∷ entry learned 5 2 ∷ []) ∷ (opened ∷ entry (Refused Disk) 5 3 ∷ [])
    ∷ (opened ∷ entry (Refused Disk) 5 3 ∷ entry learned 9 3 ∷ []) ∷ [])
    ≡ (empty_state ∷ []) ∷ (learnt ∷ []) ∷ (empty_state ∷ learnt ∷ []) ∷ (learnt ∷ []) ∷ []
unfolding lib.Utf8.encode
left = refl

-- what stands over some times stands at the first of them, at the last, and between
abbrev Stands : (ℕ → Image → Type 0) → Type 0
Stands since = StandsOver empty_state (opened ∷ []) 3 5 since

at_each : (since : ℕ → Image → Type 0) → Stands since → (image : Image) → since 3 image → since 4 image → since 5 image
    → RecoversBy empty_state (opened ∷ []) 3 image × RecoversBy empty_state (opened ∷ []) 4 image
    × RecoversBy empty_state (opened ∷ []) 5 image
at_each since stands image first middle last = (
  stands 3 image (lit≤ tt) (lit≤ tt) first,
  stands 4 image (lit≤ tt) (lit≤ tt) middle,
  stands 5 image (lit≤ tt) (lit≤ tt) last,
)

-- a learning of time 5 behind an opening of time 3: two empty files are opened as the state before it at each moment
-- before 5, and a second file with its record as the state after it at each moment
learnt_recovers : Recovers learnt (pair [] (file 1 (first ∷ [])))
unfolding number_bytes number_of number_step
learnt_recovers = (old (first ∷ []), has 1 (first ∷ []) (lit≤ tt) sized_one, first_leaves)

empty_recovers : Recovers empty_state (pair [] [])
empty_recovers = (no_records newest_version, refl, refl)

by_times : RecoversBy empty_state (opened ∷ entry learned 5 2 ∷ []) 4 (pair [] [])
    × RecoversBy empty_state (opened ∷ entry learned 5 2 ∷ []) 4 (pair [] (file 1 (first ∷ [])))
    × RecoversBy empty_state (opened ∷ entry learned 5 2 ∷ []) 5 (pair [] (file 1 (first ∷ [])))
unfolding lib.Utf8.encode
by_times = (
  record {
    front = opened ∷ [];
    back = entry learned 5 2 ∷ [];
    is = refl;
    later = All-cons (λ note. 4 < time_of note) (entry learned 5 2) [] (lit< tt) (All-nil (λ note. 4 < time_of note));
    recovers = (empty_state, (0, lit< tt, refl), empty_recovers);
  },
  record {
    front = opened ∷ entry learned 5 2 ∷ [];
    back = [];
    is = refl;
    later = All-nil (λ note. 4 < time_of note);
    recovers = (learnt, (0, lit< tt, refl), learnt_recovers);
  },
  record {
    front = opened ∷ entry learned 5 2 ∷ [];
    back = [];
    is = refl;
    later = All-nil (λ note. 5 < time_of note);
    recovers = (learnt, (0, lit< tt, refl), learnt_recovers);
  },
)

-- what a history of a store stands over, and its note
abbrev store : OpenStore ℕ
store = record {
  journal = record {
    disk = 7;
    newest = 3;
    live = record { file = B; version = 1; generation = 2 };
    end = 12;
    idle = idles.Loose;
    doubt = doubts.Calm;
  };
  state = other;
  files = (row_a ∷ []) ∷ [];
  limit = 64;
}

-- a disk whose time is its number, and five of whose calls failed
abbrev aged : Ghosts ℕ
aged = record {
  tells = ⊥;
  faults = λ disk. 5;
  time = λ disk. disk;
  seen = λ disk. empty_image;
  left_since = λ disk since image. ⊥;
}

now : opening_now aged store
    ≡ record { files = (row_a ∷ []) ∷ []; state = other; end = 12; limit = 64; time = 7; faults = 5 }
now = refl

note : opening_note (opening_now aged store)
    ≡ Opened ((row_a ∷ []) ∷ []) other 12 64 7 5
note = refl

-- a tally counts answers, and no rows
counts : Counts (opening_now aged store) (opened ∷ []) empty_tally
    × Counts (opening_now aged store)
    (opened ∷ entry learned 5 4 ∷ entry (Refused Disk) 6 5 ∷ entry full 6 5 ∷ [])
    (record empty_tally { learned = 1; disk = true; full = true })
counts = (refl, refl)
