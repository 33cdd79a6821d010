-- What a call does to a store, clause by clause, at small examples, each worked out by hand.
use Rattle.std.proofs.Common.{ℕ, ⊎_elim, None, List, [], ◌∷◌, length, ap, refl, arith, lit≤}
use Rattle.skk_calls.specs.declared.answer.Answer.{Answer}
use Rattle.skk_calls.specs.declared.answer.Answer.TheVariants.{Done, Refused}
use Rattle.skk_calls.specs.declared.answer.Refusal.TheVariants.{Memory, Disk, JournalFull}
use Rattle.skk_calls.specs.declared.answer.Reply.TheVariants.{Learned, Found}
use Rattle.skk_calls.specs.declared.call.Call.{Call}
use Rattle.skk_calls.specs.declared.call.Call.TheVariants.{Lookup}
use Rattle.skk_calls.specs.declared.chronicle.Noted.{Noted}
use Rattle.skk_calls.specs.declared.chronicle.Noted.TheVariants.{Entered}
use Rattle.skk_calls.specs.Histories.{Opening}
use Rattle.skk_calls.specs.States.{State, empty_state}
use Rattle.skk_disk.specs.declared.disk.Disk.{Ghosts}
use Rattle.skk_disk.specs.Image.{empty_image}
use Rattle.skk_disk.specs.declared.which.Which.TheVariants.{A}
use Rattle.skk_journal.specs.declared.live.Doubt.{Doubt}
use Rattle.skk_journal.specs.declared.live.Doubt.TheVariants as doubts
use Rattle.skk_journal.specs.declared.live.Idle.TheVariants as idles
use Rattle.learned_store.specs.Served.{Serves}
use Rattle.learned_store.specs.Stands.{NotedStore, NotesCall, Stands, opening_note}
use Rattle.learned_store.specs.Stores.{OpenStore}
use Rattle.learned_store.proofs.SmallFiles.{row_a, state, learn}

-- a disk of so many faults, which tells nothing and which nothing is left of
abbrev silent : Ghosts ℕ
silent = record {
  tells = ⊥;
  faults = λ disk. disk;
  time = λ disk. 5;
  seen = λ disk. empty_image;
  left_since = λ disk since image. ⊥;
}

-- a store of a state, whose live file ends here, after so many faults
abbrev store : State → ℕ → ℕ → Doubt → ℕ → OpenStore ℕ
store kept end limit doubt disk = record {
  journal = record {
    disk = disk;
    newest = 3;
    live = record { file = A; version = 1; generation = 1 };
    end = end;
    idle = idles.Loose;
    doubt = doubt;
  };
  state = kept;
  files = [];
  limit = limit;
}

-- a store without rows under a limit, in no doubt; with b for a the file of its state ends at 48
abbrev old : ℕ → OpenStore ℕ
old limit = store empty_state 18 limit doubts.Calm 2

abbrev new : ℕ → ℕ → ℕ → OpenStore ℕ
new end limit disk = store (state 1 (row_a ∷ [])) end limit doubts.Calm disk

abbrev still : ℕ → ℕ → OpenStore ℕ
still limit disk = store empty_state 18 limit doubts.Calm disk

abbrev learned : Answer
learned = Done (Learned (record { book = 1; key = row_a.key; stamp = 1; before = None }))

abbrev look_up : Call
look_up = Lookup 1 row_a.key None

-- how many books a state has
abbrev books_of : State → ℕ
books_of kept = length kept.books

abbrev ServesBy : OpenStore ℕ → OpenStore ℕ → Call → Answer → Type 0
ServesBy = Serves silent

-- a change that was done had room, leaves the state after it, and the live file ends behind it
done_not : (¬ ServesBy (old 47) (new 48 47 2) learn learned) × (¬ ServesBy (old 48) (still 48 2) learn learned)
    × (¬ ServesBy (old 48) (new 47 48 2) learn learned) × (¬ ServesBy (old 48) (new 48 49 2) learn learned)
    × (¬ ServesBy (old 48) (new 48 48 1) learn learned)
unfolding lib.Utf8.encode
done_not = (
  λ is. omega (arith, is.fits refl),
  λ is. omega (arith, ap books_of is.state),
  λ is. omega (arith, is.end refl),
  λ is. omega (arith, is.limit),
  λ is. omega (arith, is.advances.counted),
)

-- a disk that failed a change had room for it, where nothing was in doubt, and a fault more; and it changed no state
disk_not : (¬ ServesBy (old 47) (still 47 3) learn (Refused Disk))
    × (¬ ServesBy (old 48) (still 48 2) learn (Refused Disk))
    × (¬ ServesBy (old 48) (new 48 48 3) learn (Refused Disk))
unfolding lib.Utf8.encode
disk_not = (
  λ is. ⊎_elim (λ doubts. cc doubts) (λ fits. omega (arith, fits)) (is.room refl),
  λ is. omega (arith, is.failed refl),
  λ is. cc is.state,
)

-- where there was no room the three numbers are those of the tight end, the need and the limit; and a file that had
-- room is not full
full_not : (¬ ServesBy (old 48) (still 48 2) learn (Refused (JournalFull 18 30 48)))
    × (¬ ServesBy (old 47) (still 47 2) learn (Refused (JournalFull 17 30 47)))
    × (¬ ServesBy (old 47) (still 47 2) learn (Refused (JournalFull 18 31 47)))
    × (¬ ServesBy (old 47) (still 47 2) learn (Refused (JournalFull 18 30 48)))
unfolding lib.Utf8.encode
full_not = (
  λ is. omega (arith, is.legal.1.3),
  λ is. omega (arith, is.legal.1.0),
  λ is. omega (arith, is.legal.1.1),
  λ is. omega (arith, is.legal.1.2),
)

-- want of memory, and a call that changes nothing, leave the journal as it was; a look-up is refused for memory alone
still_not : (¬ ServesBy (old 48) (store empty_state 19 48 doubts.Calm 2) learn (Refused Memory))
    × (¬ ServesBy (old 48) (store empty_state 19 48 doubts.Calm 2) look_up (Done (Found [])))
    × (¬ ServesBy (old 48) (still 48 3) look_up (Refused Disk))
unfolding lib.Utf8.encode
still_not = (
  λ is. omega (arith, ap (λ journal. journal.end) (is.memory refl)),
  λ is. omega (arith, ap (λ journal. journal.end) (is.still refl)),
  λ is. cc is.may,
)

-- want of memory changes nothing, whatever the limit
memory : ServesBy (old 0) (old 0) learn (Refused Memory)
memory = record {
  legal = tt;
  may = refl;
  fits = λ changed. cc;
  room = λ disk. cc;
  failed = λ disk. cc;
  state = refl;
  end = λ changed. cc;
  version = λ changed. cc;
  files = refl;
  limit = refl;
  still = λ stays. refl;
  memory = λ want. refl;
  images = λ doubt keeps image none. absurd none;
  after = λ doubt keeps. (doubt, refl, keeps);
  advances = record {
    past = record {
      later = lit≤ tt;
      goes_on = λ since image within none. absurd none;
      keeps = λ since image within none. absurd none;
    };
    counted = lit≤ tt;
  };
}

-- a noted store gets the entry of each call, with the time and the faults of the disk as they are now
abbrev noted : OpenStore ℕ → NotedStore ℕ
noted store = record { store = store; notes = [] }

noted_call : NotesCall silent (noted (old 0))
    (record { store = old 0; notes = Entered 7 learn (Refused Memory) 5 2 ∷ [] }) 7 learn (Refused Memory)
noted_call = record {
  notes = refl;
  may = refl;
  fits = λ changed. cc;
  room = λ disk. cc;
  advances = memory.advances;
}

noted_not : (¬ NotesCall silent (noted (old 47)) (noted (new 48 47 2)) 7 learn learned)
    × (¬ NotesCall silent (noted (old 47)) (noted (still 47 3)) 7 learn (Refused Disk))
    × (¬ NotesCall silent (noted (old 48)) (noted (old 48)) 7 look_up (Refused Disk))
unfolding lib.Utf8.encode
noted_not = (
  λ is. omega (arith, is.fits refl),
  λ is. ⊎_elim (λ doubts. cc doubts) (λ fits. omega (arith, fits)) (is.room refl),
  λ is. cc is.may,
)

-- The notes of a store that was opened at the time 5 after two faults, under a limit

abbrev opening : ℕ → Opening
opening limit = record { files = []; state = empty_state; end = 18; limit = limit; time = 5; faults = 2 }

abbrev opened : ℕ → Noted
opened limit = opening_note (opening limit)

abbrev entered : Answer → ℕ → Noted
entered given disk = Entered 7 learn given 5 disk

abbrev StandsBy : ℕ → List Noted → OpenStore ℕ → Type 0
StandsBy limit notes store =
    Stands silent (opening limit) (λ since image. ⊥) notes store

-- notes begin with an opening; each change had room; the store has the state behind them, and the limit; it is in doubt
-- only where a change is; and a disk's refusal has its fault, which is noted
stands_not : (¬ StandsBy 48 [] (old 48)) × (¬ StandsBy 47 (opened 47 ∷ entered learned 2 ∷ []) (new 48 47 2))
    × (¬ StandsBy 48 (opened 48 ∷ entered learned 2 ∷ []) (old 48)) × (¬ StandsBy 48 (opened 48 ∷ []) (old 49))
    × (¬ StandsBy 48 (opened 48 ∷ []) (store empty_state 18 48 doubts.Record 2))
    × (¬ StandsBy 48 (opened 48 ∷ []) (store empty_state 18 48 doubts.Idle 2))
    × (¬ StandsBy 48 (opened 48 ∷ entered (Refused Disk) 2 ∷ []) (old 48))
    × (¬ StandsBy 48 (opened 48 ∷ entered (Refused Disk) 3 ∷ []) (old 48))
unfolding lib.Utf8.encode
stands_not = (
  λ is. cc is.begun,
  λ is. omega (arith, is.fits [] (record { number = 7; call = learn; answer = learned }) [] refl refl),
  λ is. omega (arith, ap books_of is.state),
  λ is. omega (arith, is.limit),
  λ is. cc (is.calm refl),
  λ is. cc (is.calm refl),
  λ is. omega (arith, is.goes_on.3.2),
  λ is. omega (arith, is.goes_on.3.3.1),
)
