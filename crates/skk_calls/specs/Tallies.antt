-- What a run of calls came to.
use Rattle.std.specs.Prelude.{ℕ, Bool, true, false, ◌||◌, min, List, length, sum_by}
use Rattle.std.specs.List.{count_by, list_any}
use Rattle.skk_calls.specs.declared.answer.Answer.{Answer}
use Rattle.skk_calls.specs.declared.answer.Answer.TheVariants.{Done, Refused}
use Rattle.skk_calls.specs.declared.answer.Refusal.TheVariants as refusals
use Rattle.skk_calls.specs.declared.answer.Reply.TheVariants as replies
use Rattle.skk_calls.specs.declared.entry.Entry.{Entry}
use Rattle.skk_text.specs.Counts.{last_count, one_more}
use Rattle.skk_calls.specs.Histories.{state_after}
use Rattle.skk_calls.specs.States.{State}

-- how many calls learnt and took back, how many rows there are, and whether calls were refused for each cause
pub record Tally : Type 0 where
  pub learned : ℕ
  pub restored : ℕ
  pub rows : ℕ
  pub memory : Bool
  pub disk : Bool
  pub full : Bool

-- the tally of no calls, over no rows
abbrev pub empty_tally : Tally
empty_tally = record { learned = 0; restored = 0; rows = 0; memory = false; disk = false; full = false }

-- an answer tells of a learning
abbrev pub tells_learned : Answer → Bool
tells_learned (Done (replies.Learned learned)) = true
tells_learned answer = false

-- an answer tells of a learning that was taken back
abbrev pub tells_restored : Answer → Bool
tells_restored (Done replies.Restored) = true
tells_restored answer = false

-- an answer is a refusal as out of memory
abbrev pub lacks_memory : Answer → Bool
lacks_memory (Refused refusals.Memory) = true
lacks_memory answer = false

-- an answer is a refusal for a disk that failed
abbrev pub lacks_disk : Answer → Bool
lacks_disk (Refused refusals.Disk) = true
lacks_disk answer = false

-- an answer is a refusal for a learned file that is full
abbrev pub lacks_room : Answer → Bool
lacks_room (Refused (refusals.JournalFull end need limit)) = true
lacks_room answer = false

-- a number with one more where the test holds, as far as a number can tell
abbrev pub one_more_if : Bool → ℕ → ℕ
one_more_if true count = one_more count
one_more_if false count = count

-- a tally with one more answer
abbrev pub tally_with : Tally → Answer → Tally
tally_with tally answer = record {
  learned = one_more_if (tells_learned answer) tally.learned;
  restored = one_more_if (tells_restored answer) tally.restored;
  rows = tally.rows;
  memory = tally.memory || lacks_memory answer;
  disk = tally.disk || lacks_disk answer;
  full = tally.full || lacks_room answer;
}

-- how many entries have an answer that passes the test, as far as a number can tell
abbrev pub count_answers : (Answer → Bool) → List Entry → ℕ
count_answers test history = min (count_by (λ entry. test entry.answer) history) last_count

-- some entry has an answer that passes the test
abbrev pub has_answer : (Answer → Bool) → List Entry → Bool
has_answer test history = list_any (λ entry. test entry.answer) history

-- how many rows the books of a state have
abbrev pub count_rows : State → ℕ
count_rows state = sum_by (λ book. length book.rows) state.books

-- what a history over a state came to
abbrev pub tally_of : State → List Entry → Tally
tally_of state history = record {
  learned = count_answers tells_learned history;
  restored = count_answers tells_restored history;
  rows = min (count_rows (state_after state history)) last_count;
  memory = has_answer lacks_memory history;
  disk = has_answer lacks_disk history;
  full = has_answer lacks_room history;
}
