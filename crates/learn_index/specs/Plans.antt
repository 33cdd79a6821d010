-- What a plan says of a change: its reply, and the row and the count, or the list of a typist, that it leaves.
use Rattle.std.specs.Prelude.{◌≡◌, ℕ, ◌<◌, Bool, true, false, nat_lt, if◌then◌else◌, ⊤, Some, []}
use Rattle.skk_calls.specs.declared.answer.Reply.{Reply}
use Rattle.skk_calls.specs.declared.answer.Reply.TheVariants.{TooBig}
use Rattle.skk_calls.specs.declared.call.Call.{Call}
use Rattle.skk_calls.specs.declared.call.Call.TheVariants.{Lookup, Complete, Share}
use Rattle.skk_calls.specs.Canonical.{line_limit}
use Rattle.skk_calls.specs.Dictionary.{answer, after, line_length, moves, speaks_of, is_call, is_fit}
use Rattle.skk_calls.specs.Rows.{RowKey, Row}
use Rattle.skk_calls.specs.States.{State, row_at, count_of}
use Rattle.learn_index.specs.declared.plan.Plan.{Plan}
use Rattle.learn_index.specs.declared.plan.Plan.TheVariants.{Still, Move, Lists}
use Rattle.learn_index.specs.Index.{Index, spare_of}

-- a call looks up, or completes: it never changes anything
abbrev pub is_question : Call → Bool
is_question (Lookup who key okuri) = true
is_question (Complete who prefix) = true
is_question call = false

-- a plan tells what the dictionary of one thread answers, and where that changes the state, which row of which book it
-- leaves, and which count, or which typist gets which list
abbrev pub IsPlanned : State → Call → Plan → Type 0
IsPlanned state call (Still reply) = (moves state call ≡ false) × (reply ≡ answer [] state call)
IsPlanned state call (Move book count key row reply) =
    (moves state call ≡ true) × (reply ≡ answer [] state call) × (speaks_of call book key ≡ true)
    × (count ≡ count_of (after state call) book) × (row ≡ row_at (after state call) book key)
IsPlanned state call (Lists who list reply) =
    (moves state call ≡ true) × (reply ≡ answer [] state call) × (call ≡ Share who list)

-- the plan that a key gets a row in a book, which gets this count, unless the row's line is too long
abbrev pub row_plan : ℕ → ℕ → RowKey → Row → Reply → Plan
row_plan book count key row reply =
    if nat_lt line_limit (line_length row)
    then Still (TooBig (line_length row))
    else Move book count key (Some row) reply

-- a plan was made for some call that may be made
abbrev pub IsMade : State → Plan → Type 0
IsMade state plan =
    (call : Call) × (is_call call ≡ true) × (is_fit call ≡ true) × (is_question call ≡ false)
    × IsPlanned state call plan

-- the book of a plan, or the lists, have room for it
abbrev pub HasRoom : Index → Plan → Type 0
HasRoom index (Still reply) = ⊤
HasRoom index (Move book count key row reply) = 0 < spare_of index book
HasRoom index (Lists who list reply) = 0 < index.spare_lists
