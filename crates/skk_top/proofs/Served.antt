-- Histories of which no call was refused.
use Rattle.std.proofs.Common.{◌≡◌, ap, refl, Bool, true, false, ◌||◌, ◌==◌}
use Rattle.std.proofs.Common.{Ok, OnOk, List, [], ◌∷◌, ◌++◌}
use Rattle.std.proofs.lemmas.Bool.{and_from, and_parts}
use Rattle.std.specs.List.{list_all, list_any}
use Rattle.skk_calls.specs.declared.answer.Answer.{Answer}
use Rattle.skk_calls.specs.declared.answer.Answer.TheVariants.{Done, Refused}
use Rattle.skk_calls.specs.declared.answer.Refusal.TheVariants.{Memory, Disk, JournalFull}
use Rattle.skk_calls.specs.declared.call.Call.{Call}
use Rattle.skk_calls.specs.declared.entry.Entry.{Entry}
use Rattle.skk_calls.specs.Histories.{Opening, LacksRoom, IsLegal, IsLegalAnswer, after_answer, after_entry}
use Rattle.skk_calls.specs.Histories.{dialog}
use Rattle.skk_calls.specs.Histories.{state_after}
use Rattle.skk_calls.specs.Interactions.{Dialog, IsAnsweredAlone}
use Rattle.skk_calls.specs.Openings.{is_reply}
use Rattle.skk_calls.specs.States.{State}
use Rattle.skk_calls.specs.Tallies.{lacks_memory, lacks_disk, lacks_room, tally_of}
use Rattle.run_endings.specs.Status.{ended_by}

-- each answer of a history from a state on is legal at its place
abbrev AreLegal : Opening → State → List Entry → Type 0
AreLegal opening state history =
    (prefix : List Entry) (entry : Entry) (rest : List Entry) → history ≡ prefix ++ entry ∷ rest
    → IsLegalAnswer LacksRoom opening (state_after state prefix) entry.call entry.answer

first-served : (opening : Opening) (state : State) (call : Call) (given : Answer) (behind : Dialog)
    → IsLegalAnswer LacksRoom opening state call given → is_reply given ≡ true
    → IsAnsweredAlone opening.files (after_answer state call given) behind
    → IsAnsweredAlone opening.files state ((call, given) ∷ behind)
first-served opening state call (Done reply) behind is served alone = (ap Done is, alone)
first-served opening state call (Refused refusal) behind is served alone = absurd (cc)

from : (opening : Opening) (state : State) (history : List Entry) → AreLegal opening state history
    → list_all (λ entry. is_reply entry.answer) history ≡ true → list_all (λ entry. entry.number == 0) history ≡ true
    → IsAnsweredAlone opening.files state (dialog history 0)
from opening state [] legal served one = tt
from opening state (entry ∷ history) legal served one =
    let serves = and_parts (is_reply entry.answer) (list_all (λ other. is_reply other.answer) history) served in
    let ones = and_parts (entry.number == 0) (list_all (λ other. other.number == 0) history) one in
    rw ones.0
    (first-served opening state entry.call entry.answer (dialog history 0) (legal [] entry history refl) serves.0
    (from opening (after_entry state entry) history
    (λ prefix other rest parts. legal (entry ∷ prefix) other rest (ap (λ h. entry ∷ h) parts)) serves.1 ones.1))

-- where no call of a legal history was refused the dictionary of one thread answers it so
pub answered_alone : (opening : Opening) (history : List Entry) → IsLegal opening history
    → list_all (λ entry. is_reply entry.answer) history ≡ true → list_all (λ entry. entry.number == 0) history ≡ true
    → IsAnsweredAlone opening.files opening.state (dialog history 0)
answered_alone opening history legal served one = from opening opening.state history legal served one

-- an answer that lacks nothing is a reply
lacks-nothing : (given : Answer) → lacks_disk given ≡ false → lacks_memory given ≡ false → lacks_room given ≡ false
    → is_reply given ≡ true
lacks-nothing (Done reply) disk memory room = refl
lacks-nothing (Refused Memory) disk memory room = absurd (cc)
lacks-nothing (Refused Disk) disk memory room = absurd (cc)
lacks-nothing (Refused (JournalFull end need limit)) disk memory room = absurd (cc)

or-parts : (a b : Bool) → (a || b) ≡ false → (a ≡ false) × (b ≡ false)
or-parts true b none = absurd (cc)
or-parts false b none = (refl, none)

all-served : (history : List Entry) → list_any (λ entry. lacks_disk entry.answer) history ≡ false
    → list_any (λ entry. lacks_memory entry.answer) history ≡ false
    → list_any (λ entry. lacks_room entry.answer) history ≡ false
    → list_all (λ entry. is_reply entry.answer) history ≡ true
all-served [] disk memory room = refl
all-served (entry ∷ history) disk memory room =
    let disks = or-parts (lacks_disk entry.answer) (list_any (λ other. lacks_disk other.answer) history) disk in
    let memories =
    or-parts (lacks_memory entry.answer) (list_any (λ other. lacks_memory other.answer) history) memory in
    let rooms = or-parts (lacks_room entry.answer) (list_any (λ other. lacks_room other.answer) history) room in
    and_from (is_reply entry.answer) (list_all (λ other. is_reply other.answer) history)
    (lacks-nothing entry.answer disks.0 memories.0 rooms.0) (all-served history disks.1 memories.1 rooms.1)

-- a run of which all was typed is done only where no call was refused
pub where_done : (history : List Entry) (state : State)
    → OnOk (ended_by (Ok tt) (tally_of state history)) (list_all (λ entry. is_reply entry.answer) history ≡ true)
where_done history state =
    by (list_any (λ entry. lacks_disk entry.answer) history) (list_any (λ entry. lacks_memory entry.answer) history)
    (list_any (λ entry. lacks_room entry.answer) history) (all-served history)
  where
    by : (disk memory room : Bool)
        → (disk ≡ false → memory ≡ false → room ≡ false → list_all (λ entry. is_reply entry.answer) history ≡ true)
        → OnOk (ended_by (Ok tt) (record (tally_of state history) { disk = disk; memory = memory; full = room }))
        (list_all (λ entry. is_reply entry.answer) history ≡ true)
    by true memory room all = tt
    by false true room all = tt
    by false false true all = tt
    by false false false all = all refl refl refl
