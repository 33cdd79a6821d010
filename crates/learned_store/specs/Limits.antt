-- What answers tell of the room in the learned file.
use Rattle.std.specs.Prelude.{◌≡◌, ◌≢◌, ◌⊎◌, ⊤, ◌+◌, ◌≤◌, true, List, [], ◌∷◌, ◌++◌}
use Rattle.skk_calls.specs.declared.answer.Answer.{Answer}
use Rattle.skk_calls.specs.declared.answer.Answer.TheVariants.{Done, Refused}
use Rattle.skk_calls.specs.declared.answer.Refusal.TheVariants.{Disk}
use Rattle.skk_calls.specs.declared.call.Call.{Call}
use Rattle.skk_calls.specs.declared.entry.Entry.{Entry}
use Rattle.skk_calls.specs.Dictionary.{is_change}
use Rattle.skk_calls.specs.Histories.{Opening, need, state_after, in_doubt, tight}

-- behind a history the learned file has room for what a call needs, once it holds nothing but its state
abbrev pub HasRoomFor : Opening → List Entry → Call → Type 0
HasRoomFor opening history call =
    let state = state_after opening.state history in tight state + need state call ≤ opening.limit

-- what an answer behind a history tells of that room: a change that is done had it; one that a disk failed had it too,
-- or came behind a change in doubt
abbrev pub HadRoom : Opening → List Entry → Call → Answer → Type 0
HadRoom opening history call (Done reply) = is_change reply ≡ true → HasRoomFor opening history call
HadRoom opening history call (Refused Disk) = (in_doubt [] history ≢ []) ⊎ HasRoomFor opening history call
HadRoom opening history call (Refused refusal) = ⊤

-- each answer of a history tells so of the room at its place
abbrev pub AllHadRoom : Opening → List Entry → Type 0
AllHadRoom opening history =
    (prefix : List Entry) (entry : Entry) (rest : List Entry) → history ≡ prefix ++ entry ∷ rest
    → HadRoom opening prefix entry.call entry.answer
