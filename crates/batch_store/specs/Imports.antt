-- What an import leaves.
use Rattle.std.specs.Prelude.{◌≡◌, ◌⊎◌, ℕ, ◌+◌, ◌<◌, ◌≤◌, Result, Ok, Err, IsOk, List, [], ◌++◌, length}
use Rattle.std.specs.List.{flat_map}
use Rattle.skk_text.specs.Counts.{last_count}
use Rattle.skk_calls.specs.declared.call.Call.{Call}
use Rattle.skk_calls.specs.declared.chronicle.Noted.{Noted}
use Rattle.skk_calls.specs.Rows.{Row}
use Rattle.skk_calls.specs.States.{count_of}
use Rattle.skk_disk.specs.declared.disk.Disk.{Ghosts}
use Rattle.learn_index.specs.Groups.{group_limit}
use Rattle.learned_store.specs.Stands.{NotedStore}
use Rattle.batch_store.specs.declared.group_fault.GroupFault.{GroupFault}
use Rattle.batch_store.specs.declared.group_fault.GroupFault.TheVariants.{Memory}
use Rattle.batch_store.specs.declared.import_fault.ImportFault.{ImportFault}
use Rattle.batch_store.specs.declared.import_fault.ImportFault.TheVariants.{StampsEnd, Refused}
use Rattle.batch_store.specs.Learnings.{import_calls, import_groups}
use Rattle.batch_store.specs.Pieces.{CommitsGroups, calls_in}

-- the stamps of a book that are taken where a candidate of each rank of each row is learnt, and those of a group more
abbrev pub stamps_taken : ℕ → ℕ → List Row → ℕ
stamps_taken count book rows = count + length (import_calls book rows) + group_limit

-- lists of notes have the first ones of these calls, and all of them where none was refused
abbrev pub HaveFirst : List Call → List (List Noted) → Result (Unit {0}) GroupFault → Type 0
HaveFirst calls lists result =
    (left : List Call) × (calls ≡ flat_map calls_in lists ++ left) × (IsOk result → left ≡ [])

-- the learnings of rows into a book were committed in groups until one was refused, and made this noted store of that
-- one
pub record ImportsRows {D : Type 0} (disk : Ghosts D) (old new : NotedStore D) (book : ℕ) (rows : List Row)
    (result : Result (Unit {0}) GroupFault) : Type 0 where
  pub groups : CommitsGroups disk old new (import_groups book rows) result
  pub calls : HaveFirst (import_calls book rows) groups.lists result

-- a book with this count has stamps for the learnings of all candidates of rows, and for a group more
abbrev pub HasStamps : ℕ → ℕ → List Row → Type 0
HasStamps count book rows = stamps_taken count book rows ≤ last_count

-- an import of rows into a book with this result made this noted store of that one: the book has not enough stamps, and
-- nothing was done, or it has, and the learnings were committed in groups, until one was refused; memory may have been
-- out before that was looked at
abbrev pub LeavesImported : {D : Type 0} → Ghosts D → NotedStore D → NotedStore D → ℕ → List Row
    → Result (Unit {0}) ImportFault → Type 0
LeavesImported disk old new book rows (Ok unit) =
    HasStamps (count_of old.store.state book) book rows × ImportsRows disk old new book rows (Ok unit)
LeavesImported disk old new book rows (Err StampsEnd) =
    (last_count < stamps_taken (count_of old.store.state book) book rows) × (new ≡ old)
LeavesImported disk old new book rows (Err (Refused fault)) =
    ((fault ≡ Memory) ⊎ HasStamps (count_of old.store.state book) book rows)
    × ImportsRows disk old new book rows (Err fault)
