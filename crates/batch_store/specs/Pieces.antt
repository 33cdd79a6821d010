-- Groups of calls that are committed one behind another, and what a stop at each moment leaves of the disk.
use Rattle.std.specs.Prelude.{◌≡◌, ◌⊎◌, ℕ, ◌+◌, ◌<◌, ◌≤◌, true, Result, Err, List, [], ◌∷◌, ◌++◌, All, map}
use Rattle.std.specs.Prelude.{length, IsOk, None}
use Rattle.std.specs.List.{flat_map, list_all}
use Rattle.skk_outside.specs.Faults.{Rose}
use Rattle.skk_text.specs.Counts.{last_count}
use Rattle.skk_calls.specs.declared.answer.Answer.TheVariants.{Refused}
use Rattle.skk_calls.specs.declared.answer.Refusal.TheVariants.{JournalFull}
use Rattle.skk_calls.specs.declared.call.Call.{Call}
use Rattle.skk_calls.specs.declared.chronicle.Noted.{Noted}
use Rattle.skk_calls.specs.declared.entry.Entry.{Entry}
use Rattle.skk_calls.specs.Chronicles.{history_of}
use Rattle.skk_calls.specs.Openings.{is_reply}
use Rattle.skk_calls.specs.Histories.{after_calls, in_doubt, state_after, tight}
use Rattle.skk_calls.specs.States.{State, count_of}
use Rattle.skk_calls.specs.Tallies.{has_answer, lacks_disk}
use Rattle.skk_disk.specs.declared.disk.Disk.{Ghosts}
use Rattle.skk_disk.specs.Image.{Image}
use Rattle.skk_disk.specs.Runs.{Advances}
use Rattle.learn_index.specs.Groups.{book_of_group, group_limit}
use Rattle.learned_store.specs.Stands.{NotedStore, time_of}
use Rattle.learned_store.specs.Stores.{Keeps, OpenStore, RecoversOneOf}
use Rattle.batch_store.specs.declared.group_fault.GroupFault.{GroupFault}
use Rattle.batch_store.specs.declared.group_fault.GroupFault.TheVariants.{Full, Disk}
use Rattle.batch_store.specs.Batches.{group_need}

-- The pieces in which groups are committed

-- the calls of notes, in order
abbrev pub calls_in : List Noted → List Call
calls_in notes = map (λ entry. entry.call) (history_of notes)

-- within a limit a learned file that holds a state has no room for what calls need together
abbrev pub LacksRoomForAll : ℕ → State → List Call → Type 0
LacksRoomForAll limit state calls = limit < tight state + group_need state calls

-- groups of calls from a state on are committed in these pieces: each group as one, or call by call where there is no
-- room for it as one
abbrev pub AreCommittedIn : ℕ → State → List (List Call) → List (List Call) → Type 0
AreCommittedIn limit state [] pieces = pieces ≡ []
AreCommittedIn limit state (calls ∷ groups) pieces =
    (rest : List (List Call)) × AreCommittedIn limit (after_calls state calls) groups rest
    × ((pieces ≡ calls ∷ rest)
    ⊎ (LacksRoomForAll limit state calls × (pieces ≡ map (λ call. call ∷ []) calls ++ rest)))

-- lists of notes have the calls of the first of these pieces, one list each
abbrev pub AreOfPieces : List (List Call) → List (List Noted) → Type 0
AreOfPieces pieces lists = (left : List (List Call)) × (pieces ≡ map calls_in lists ++ left)

-- the notes of lists, in order
abbrev pub notes_of : List (List Noted) → List Noted
notes_of lists = flat_map (λ notes. notes) lists

-- What a stop leaves

-- the states that a stop behind notes may leave: the one behind them, and the one behind the whole piece that a disk
-- failed last
abbrev pub left_by_pieces : State → List Noted → List State
left_by_pieces opened notes =
    let now = state_after opened (history_of notes) in
    now ∷ after_calls now (in_doubt [] (history_of notes)) ∷ []

-- an image is opened as a state that a stop may leave behind the first ones of some lists of notes, which have each
-- note that was made by a time
pub record RecoversByPieces (opened : State) (lists : List (List Noted)) (time : ℕ) (image : Image) : Type 0 where
  pub front : List (List Noted)
  pub back : List (List Noted)
  pub is : lists ≡ front ++ back
  pub later : All (All (λ note. time < time_of note)) back
  pub recovers : RecoversOneOf (left_by_pieces opened (notes_of front)) image

-- from a time up to now, what a stop since a moment might have left is opened so
abbrev pub StandsByPieces : State → List (List Noted) → ℕ → ℕ → (ℕ → Image → Type 0) → Type 0
StandsByPieces opened lists start now since =
    (time : ℕ) (image : Image) → start ≤ time → time ≤ now → since time image → RecoversByPieces opened lists time image

-- a store stands behind these lists of notes, none of which was refused for the disk: it has the state behind them,
-- and nothing is in doubt; they were made by now; and each image of each moment since a start is opened so
pub record Stood {D : Type 0} (disk : Ghosts D) (opened : State) (start : ℕ) (lists : List (List Noted))
    (store : OpenStore D) : Type 0 where
  pub early : start ≤ disk.time store.journal.disk
  pub state : store.state ≡ state_after opened (history_of (notes_of lists))
  pub calm : in_doubt [] (history_of (notes_of lists)) ≡ []
  pub made : All (All (λ note. time_of note ≤ disk.time store.journal.disk)) lists
  pub keeps : Keeps disk store.journal store.state None
  pub moments : StandsByPieces opened lists start (disk.time store.journal.disk) (disk.left_since store.journal.disk)

-- What the groups need, and what they were answered

-- the book in which calls learn has a stamp for each of them, and for those of a group more
abbrev pub HasStampsFor : State → List Call → Type 0
HasStampsFor state calls = count_of state (book_of_group calls) + length calls + group_limit ≤ last_count

-- the answers of a history are those of groups that ended so: all calls were served; the last one was refused for want
-- of room, and the others served; or the disk failed the last piece
abbrev pub EndSo : Result (Unit {0}) GroupFault → List Entry → Type 0
EndSo (Err (Full end need limit)) history =
    (front : List Entry) × (call : Call) × (list_all (λ entry. is_reply entry.answer) front ≡ true)
    × (history ≡ front ++ record { number = 0; call = call; answer = Refused (JournalFull end need limit) } ∷ [])
EndSo (Err Disk) history = has_answer lacks_disk history ≡ true
EndSo result history = list_all (λ entry. is_reply entry.answer) history ≡ true

-- groups of calls were committed one behind another until one was refused, and made this noted store of that one: in
-- pieces, whose notes stand behind the earlier ones; where none was refused, they are of all the calls
pub record CommitsGroups {D : Type 0} (disk : Ghosts D) (old new : NotedStore D) (groups : List (List Call))
    (result : Result (Unit {0}) GroupFault) : Type 0 where
  pub pieces : List (List Call)
  pub lists : List (List Noted)
  pub cut : AreCommittedIn old.store.limit old.store.state groups pieces
  pub noted : AreOfPieces pieces lists
  pub all : IsOk result → pieces ≡ map calls_in lists
  pub notes : new.notes ≡ old.notes ++ notes_of lists
  pub answers : EndSo result (history_of (notes_of lists))
  pub failed : result ≡ Err Disk → Rose (disk.faults old.store.journal.disk) (disk.faults new.store.journal.disk)
  pub after : IsOk result → new.store.state ≡ after_calls old.store.state (flat_map (λ group. group) groups)
  pub limit : new.store.limit ≡ old.store.limit
  pub files : new.store.files ≡ old.store.files
  pub counted : (book : ℕ) → count_of new.store.state book
      ≤ count_of old.store.state book + length (flat_map (λ group. group) groups)
  pub stands : (opened : State) (start : ℕ) (before : List (List Noted)) → Stood disk opened start before old.store
      → (IsOk result → Stood disk opened start (before ++ lists) new.store)
      × StandsByPieces opened (before ++ lists) start (disk.time new.store.journal.disk)
      (disk.left_since new.store.journal.disk)
  pub advances : Advances disk old.store.journal.disk new.store.journal.disk
