-- The dictionary of one thread: what each call is answered, and the state after it.
use Rattle.std.specs.Prelude.{ℕ, ◌+◌, Bool, true, false, ◌&&◌, ◌==◌, nat_lt, min, if◌then◌else◌, Option, None, Some}
use Rattle.std.specs.Prelude.{List, []}
use Rattle.std.specs.List.{list_all}
use Rattle.skk_text.specs.Counts.{last_count}
use Rattle.skk_text.specs.Text.{byte_len}
use Rattle.skk_calls.specs.declared.answer.Answer.{Answer}
use Rattle.skk_calls.specs.declared.answer.Answer.TheVariants.{Done, Refused}
use Rattle.skk_calls.specs.declared.answer.Refusal.{Refusal}
use Rattle.skk_calls.specs.declared.answer.Refusal.TheVariants as refusals
use Rattle.skk_calls.specs.declared.answer.Reply.{Reply}
use Rattle.skk_calls.specs.declared.answer.Reply.TheVariants as replies
use Rattle.skk_calls.specs.declared.call.Call.{Call}
use Rattle.skk_calls.specs.declared.call.Call.TheVariants.{Lookup, Complete, Learn, Purge, Annotate, Share, Unlearn}
use Rattle.skk_calls.specs.declared.part.Part.TheVariants.{Nasi}
use Rattle.skk_calls.specs.Canonical.{canonical, line_limit}
use Rattle.skk_calls.specs.Completions.{completions}
use Rattle.skk_calls.specs.Found.{found}
use Rattle.skk_calls.specs.Learning.{learnt, purged, purge_changes, annotated, annotation_changes, unlearnt}
use Rattle.skk_calls.specs.Learning.{is_valid_learned}
use Rattle.skk_calls.specs.Rows.{RowKey, Row, same_key, is_row_key, is_okuri, is_cand, is_row, is_word}
use Rattle.skk_calls.specs.BookLists.{is_book_list, same_numbers}
use Rattle.skk_calls.specs.States.{State, row_at, count_of, shared_books, state_listed, state_with}

-- how many bytes a row's line has, as far as a number can tell
abbrev pub line_length : Row → ℕ
line_length row = min (byte_len (canonical row)) last_count

-- the reply to a change of a book with this count that would leave this row: the stamps have ended, the row is too big,
-- or the reply that tells of the change
abbrev pub change_reply : ℕ → Row → Reply → Reply
change_reply count after reply =
    if count == last_count then replies.StampsEnd
    else if nat_lt line_limit (line_length after) then replies.TooBig (line_length after)
    else reply

-- a row is there, with exactly this stamp
abbrev pub is_stamped : ℕ → Option Row → Bool
is_stamped stamp None = false
is_stamped stamp (Some row) = row.stamp == stamp

-- the stamp of a row, 0 where there is none
abbrev pub stamp_of : Option Row → ℕ
stamp_of None = 0
stamp_of (Some row) = row.stamp

-- what a call is answered, over the rows of the system files
abbrev pub answer : List (List Row) → State → Call → Reply
answer files state (Lookup who key okuri) = replies.Found (found files state who key okuri)
answer files state (Complete who prefix) = replies.Readings (completions files state who prefix)
answer files state (Learn book key okuri cand) =
    let before = row_at state book key in
    let stamp = count_of state book + 1 in
    change_reply (count_of state book) (learnt before key okuri cand stamp)
    (replies.Learned (record { book = book; key = key; stamp = stamp; before = before }))
answer files state (Purge book key word) =
    let before = row_at state book key in
    if purge_changes before key word
    then change_reply (count_of state book) (purged before key word (count_of state book + 1)) replies.Purged
    else replies.Unchanged
answer files state (Annotate book key cand) =
    let before = row_at state book key in
    if annotation_changes before key cand
    then change_reply (count_of state book) (annotated before key cand (count_of state book + 1)) replies.Annotated
    else replies.Unchanged
answer files state (Share who books) =
    if same_numbers (shared_books state who) books then replies.Unchanged else replies.Shared
answer files state (Unlearn learned) =
    let row = row_at state learned.book learned.key in
    if is_stamped learned.stamp row then replies.Restored else replies.Overtaken (stamp_of row)

-- a reply tells of a change
abbrev pub is_change : Reply → Bool
is_change (replies.Learned learned) = true
is_change replies.Purged = true
is_change replies.Restored = true
is_change replies.Annotated = true
is_change replies.Shared = true
is_change reply = false

-- a call changes the state; no system file has a say in that
abbrev pub moves : State → Call → Bool
moves state call = is_change (answer [] state call)

-- the state that a call makes where it changes the state
abbrev pub state_moved : State → Call → State
state_moved state (Lookup who key okuri) = state
state_moved state (Complete who prefix) = state
state_moved state (Learn book key okuri cand) =
    let stamp = count_of state book + 1 in
    state_with state book stamp key (Some (learnt (row_at state book key) key okuri cand stamp))
state_moved state (Purge book key word) =
    let stamp = count_of state book + 1 in
    state_with state book stamp key (Some (purged (row_at state book key) key word stamp))
state_moved state (Annotate book key cand) =
    let stamp = count_of state book + 1 in
    state_with state book stamp key (Some (annotated (row_at state book key) key cand stamp))
state_moved state (Share who books) = state_listed state who books
state_moved state (Unlearn learned) =
    state_with state learned.book (count_of state learned.book) learned.key (unlearnt learned)

-- the state after a call
abbrev pub after : State → Call → State
after state call = if moves state call then state_moved state call else state

-- a call speaks of a row: the one of its key in its book, which the call may change
abbrev pub speaks_of : Call → ℕ → RowKey → Bool
speaks_of (Learn book key okuri cand) number other = book == number && same_key key other
speaks_of (Purge book key word) number other = book == number && same_key key other
speaks_of (Annotate book key cand) number other = book == number && same_key key other
speaks_of (Unlearn learned) number other = learned.book == number && same_key learned.key other
speaks_of call number other = false

-- a call gives a typist a list of books
abbrev pub is_share : Call → Bool
is_share (Share who books) = true
is_share call = false

-- a call may be made: the word of a purge is a word, and every other call is fit by its types
abbrev pub is_fit : Call → Bool
is_fit (Purge book key word) = is_word word
is_fit call = true

-- an okurigana is valid, where there is one
abbrev pub is_okuri_or_none : Option (List ℕ) → Bool
is_okuri_or_none None = true
is_okuri_or_none (Some okuri) = is_okuri okuri

-- a row is one, where there is one
abbrev pub is_row_or_none : Option Row → Bool
is_row_or_none None = true
is_row_or_none (Some row) = is_row row

-- a call has what the types of its parts keep
abbrev pub is_call : Call → Bool
is_call (Lookup who key okuri) = is_row_key key && is_okuri_or_none okuri
is_call (Complete who prefix) = true
is_call (Learn book key okuri cand) = is_row_key key && (is_okuri_or_none okuri && is_cand cand)
is_call (Purge book key word) = is_row_key key
is_call (Annotate book key cand) = is_row_key key && is_cand cand
is_call (Share who books) = is_book_list books
is_call (Unlearn learned) = is_row_key learned.key && (is_valid_learned learned && is_row_or_none learned.before)

-- a reading is valid without okurigana
abbrev pub is_plain_reading : List ℕ → Bool
is_plain_reading reading = is_row_key (record { part = Nasi; reading = reading })

-- a call may get this reply: one of its kind, with valid readings where it is a completion
abbrev pub may_reply : Call → Reply → Bool
may_reply (Lookup who key okuri) (replies.Found cands) = true
may_reply (Complete who prefix) (replies.Readings readings) = list_all is_plain_reading readings
may_reply (Learn book key okuri cand) (replies.Learned learned) = true
may_reply (Learn book key okuri cand) (replies.TooBig length) = true
may_reply (Learn book key okuri cand) replies.StampsEnd = true
may_reply (Purge book key word) replies.Purged = true
may_reply (Purge book key word) replies.Unchanged = true
may_reply (Purge book key word) (replies.TooBig length) = true
may_reply (Purge book key word) replies.StampsEnd = true
may_reply (Annotate book key cand) replies.Annotated = true
may_reply (Annotate book key cand) replies.Unchanged = true
may_reply (Annotate book key cand) (replies.TooBig length) = true
may_reply (Annotate book key cand) replies.StampsEnd = true
may_reply (Share who books) replies.Shared = true
may_reply (Share who books) replies.Unchanged = true
may_reply (Unlearn learned) replies.Restored = true
may_reply (Unlearn learned) (replies.Overtaken stamp) = true
may_reply call reply = false

-- a call may be refused so: a lookup or a completion as out of memory alone
abbrev pub may_refuse : Call → Refusal → Bool
may_refuse call refusals.Memory = true
may_refuse (Lookup who key okuri) refusal = false
may_refuse (Complete who prefix) refusal = false
may_refuse call refusal = true

-- a call may be answered so
abbrev pub may_answer : Call → Answer → Bool
may_answer call (Done reply) = may_reply call reply
may_answer call (Refused refusal) = may_refuse call refusal
