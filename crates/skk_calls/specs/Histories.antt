-- Histories: which calls were answered how, in one order.
use Rattle.std.specs.Prelude.{◌≡◌, ⊤, ℕ, ◌+◌, ◌*◌, ◌<◌, Bool, true, false, ◌==◌, if◌then◌else◌}
use Rattle.std.specs.Prelude.{Option, None, Some, List, [], ◌∷◌, ◌++◌, length, map, sum_by}
use Rattle.std.specs.List.{filter, filter_map}
use Rattle.skk_text.specs.Text.{byte_len}
use Rattle.skk_calls.specs.declared.answer.Answer.{Answer}
use Rattle.skk_calls.specs.declared.answer.Answer.TheVariants.{Done, Refused}
use Rattle.skk_calls.specs.declared.answer.Refusal.TheVariants as refusals
use Rattle.skk_calls.specs.declared.call.Call.{Call}
use Rattle.skk_calls.specs.declared.call.Call.TheVariants.{Lookup, Complete, Learn, Purge, Annotate, Share, Unlearn}
use Rattle.skk_calls.specs.declared.entry.Entry.{Entry}
use Rattle.skk_calls.specs.Canonical.{canonical, item}
use Rattle.skk_calls.specs.Dictionary.{answer, is_change, moves, after}
use Rattle.skk_calls.specs.Learning.{learnt, purged, annotated, unlearnt}
use Rattle.skk_calls.specs.Rows.{RowKey, Cand, Row}
use Rattle.skk_calls.specs.States.{State, row_at, count_of}

-- what a history stands over: the rows of the system files, and at its opening the state, the end and the limit of the
-- learned file, and the time and the count of faults of the disk
pub record Opening : Type 0 where
  pub files : List (List Row)
  pub state : State
  pub end : ℕ
  pub limit : ℕ
  pub time : ℕ
  pub faults : ℕ

-- an answer tells of a change
abbrev pub tells_change : Answer → Bool
tells_change (Done reply) = is_change reply
tells_change (Refused refusal) = false

-- the state after a call with this answer, where a refused call changes nothing
abbrev pub after_answer : State → Call → Answer → State
after_answer state call (Done reply) = after state call
after_answer state call (Refused refusal) = state

-- the state after an entry
abbrev pub after_entry : State → Entry → State
after_entry state entry = after_answer state entry.call entry.answer

-- the state after a history
abbrev pub state_after : State → List Entry → State
state_after state [] = state
state_after state (entry ∷ history) = state_after (after_entry state entry) history

-- the calls of a history that changed something, in order
abbrev pub changes : List Entry → List Call
changes history = map (λ entry. entry.call) (filter (λ entry. tells_change entry.answer) history)

-- the bytes of a gate in the learned file, be it that of a record, its own or the last one
abbrev pub gate_bytes : ℕ
gate_bytes = 1

-- the bytes of the mark of a learned file
abbrev pub mark_bytes : ℕ
mark_bytes = 8

-- the bytes of the generation of a learned file
abbrev pub generation_bytes : ℕ
generation_bytes = 8

-- the bytes of a record's length
abbrev pub length_bytes : ℕ
length_bytes = 4

-- the bytes that tell a record's kind
abbrev pub kind_bytes : ℕ
kind_bytes = 1

-- the bytes of a book's number
abbrev pub book_bytes : ℕ
book_bytes = 2

-- the bytes of a book's count
abbrev pub count_bytes : ℕ
count_bytes = 8

-- the bytes of a row's stamp
abbrev pub stamp_bytes : ℕ
stamp_bytes = 8

-- the bytes that tell a part of the dictionary
abbrev pub part_bytes : ℕ
part_bytes = 1

-- the bytes of a reading's length where it stands before the reading
abbrev pub reading_length_bytes : ℕ
reading_length_bytes = 1

-- the bytes that the record of a row needs
abbrev pub put_need : Row → ℕ
put_need row =
    gate_bytes + length_bytes + kind_bytes + book_bytes + count_bytes + stamp_bytes + part_bytes
    + byte_len (canonical row)

-- the bytes that the record of a row that is taken out needs
abbrev pub drop_need : RowKey → ℕ
drop_need key =
    gate_bytes + length_bytes + kind_bytes + book_bytes + count_bytes + part_bytes + byte_len key.reading

-- the bytes that the record of what a key has after it was taken back needs
abbrev pub restored_need : RowKey → Option Row → ℕ
restored_need key None = drop_need key
restored_need key (Some row) = put_need row

-- the bytes that the record of a candidate with its note needs
abbrev pub note_need : RowKey → Cand → ℕ
note_need key cand =
    gate_bytes + length_bytes + kind_bytes + book_bytes + count_bytes + part_bytes + reading_length_bytes
    + byte_len key.reading + byte_len (item cand)

-- the bytes that an annotation needs: on a row that is there those of the candidate with its note, and else those of
-- the row after it
abbrev pub annotated_need : Option Row → RowKey → Cand → ℕ → ℕ
annotated_need None key cand stamp = put_need (annotated None key cand stamp)
annotated_need (Some row) key cand stamp = note_need key cand

-- the bytes that tell a typist
abbrev pub typist_bytes : ℕ
typist_bytes = 2

-- the bytes of the length of a list of books
abbrev pub list_length_bytes : ℕ
list_length_bytes = 1

-- the bytes that the record of a typist's list of books needs
abbrev pub list_need : List ℕ → ℕ
list_need books =
    gate_bytes + length_bytes + kind_bytes + typist_bytes + list_length_bytes + book_bytes * length books

-- the bytes that a call needs in the learned file where it changes something
abbrev pub need : State → Call → ℕ
need state (Lookup who key okuri) = 0
need state (Complete who prefix) = 0
need state (Learn book key okuri cand) =
    put_need (learnt (row_at state book key) key okuri cand (count_of state book + 1))
need state (Purge book key word) = put_need (purged (row_at state book key) key word (count_of state book + 1))
need state (Annotate book key cand) =
    annotated_need (row_at state book key) key cand (count_of state book + 1)
need state (Share who books) = list_need books
need state (Unlearn learned) = restored_need learned.key (unlearnt learned)

-- the bytes that the record of a book's count needs
abbrev pub count_need : ℕ
count_need = gate_bytes + length_bytes + kind_bytes + book_bytes + count_bytes

-- the bytes that the records of a book with these rows need: one for each row, or for its count where it has none
abbrev pub rows_need : List Row → ℕ
rows_need [] = count_need
rows_need (row ∷ rows) = sum_by put_need (row ∷ rows)

-- the bytes of a learned file without records: its own gate, its mark, its generation, and the gate behind them
abbrev pub least_end : ℕ
least_end = gate_bytes + mark_bytes + generation_bytes + gate_bytes

-- the end of a learned file that has just the records of a compaction of a state
abbrev pub tight : State → ℕ
tight state =
    least_end + sum_by (λ book. rows_need book.rows) state.books + sum_by (λ list. list_need list.books) state.lists

-- the state after calls, one after another
abbrev pub after_calls : State → List Call → State
after_calls state [] = state
after_calls state (call ∷ calls) = after_calls (after state call) calls

-- what is told of a learned file that is full: its tight end, what a call needs, and its limit
pub record FullFile : Type 0 where
  pub end : ℕ
  pub need : ℕ
  pub limit : ℕ

-- a learned file that holds a state has no room for what a call needs, also where it holds nothing else, and what is
-- told of it is so
abbrev pub LacksRoom : Opening → State → Call → FullFile → Type 0
LacksRoom opening state call told =
    (told.end ≡ tight state) × (told.need ≡ need state call) × (told.limit ≡ opening.limit)
    × (opening.limit < tight state + need state call)

-- an answer is the dictionary's at this state, or a refusal with its cause: out of memory, a disk that failed a change,
-- or a learned file that was full for a change, as `Full` says of what is told
abbrev pub IsLegalAnswer : (Opening → State → Call → FullFile → Type 0) → Opening → State → Call → Answer → Type 0
IsLegalAnswer Full opening state call (Done reply) = reply ≡ answer opening.files state call
IsLegalAnswer Full opening state call (Refused refusals.Memory) = ⊤
IsLegalAnswer Full opening state call (Refused refusals.Disk) = moves state call ≡ true
IsLegalAnswer Full opening state call (Refused (refusals.JournalFull told_end told_need told_limit)) =
    (moves state call ≡ true)
    × Full opening state call (record { end = told_end; need = told_need; limit = told_limit })

-- each answer of a history is legal at its place, where a learned file is full as `Full` says
abbrev pub IsLegalWhere : (Opening → State → Call → FullFile → Type 0) → Opening → List Entry → Type 0
IsLegalWhere Full opening history =
    (prefix : List Entry) (entry : Entry) (rest : List Entry) → history ≡ prefix ++ entry ∷ rest
    → IsLegalAnswer Full opening (state_after opening.state prefix) entry.call entry.answer

-- each answer of a history is legal at its place
abbrev pub IsLegal : Opening → List Entry → Type 0
IsLegal = IsLegalWhere LacksRoom

-- what an entry says of a caller: its call and its answer, where the entry is this caller's
abbrev pub said_by : ℕ → Entry → Option (Call × Answer)
said_by number entry = if entry.number == number then Some (entry.call, entry.answer) else None

-- the calls of one caller with their answers, in order
abbrev pub dialog : List Entry → ℕ → List (Call × Answer)
dialog history number = filter_map (said_by number) history

-- the calls in doubt after an answer, where a change ends all doubt and a change that a disk failed is in doubt
abbrev pub in_doubt_after : List Call → Call → Answer → List Call
in_doubt_after calls call (Done reply) = if is_change reply then [] else calls
in_doubt_after calls call (Refused refusals.Disk) = calls ++ call ∷ []
in_doubt_after calls call (Refused refusal) = calls

-- the calls in doubt after a history: those that were refused for a disk that failed, since the last change
abbrev pub in_doubt : List Call → List Entry → List Call
in_doubt calls [] = calls
in_doubt calls (entry ∷ history) = in_doubt (in_doubt_after calls entry.call entry.answer) history

-- the states that a stop may leave: the one after the history, and those after each change in doubt
abbrev pub states_left : State → List Entry → List State
states_left state history =
    let now = state_after state history in
    now ∷ map (after now) (in_doubt [] history)
