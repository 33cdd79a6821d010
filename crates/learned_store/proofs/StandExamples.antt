-- What is written of a plan, and why no state is recovered of records, at small examples, each worked out by hand.
use Rattle.std.proofs.Common.{◌≡◌, ℕ, true, false, Option, None, Some, [], ◌∷◌, map, codes, refl, arith}
use Rattle.skk_calls.specs.declared.answer.Reply.TheVariants.{Restored, Unchanged}
use Rattle.skk_calls.specs.declared.call.Call.{Call}
use Rattle.skk_calls.specs.declared.call.Call.TheVariants.{Annotate}
use Rattle.skk_calls.specs.declared.part.Part.TheVariants.{Nasi}
use Rattle.skk_calls.specs.Rows.{RowKey, Cand, Row}
use Rattle.skk_calls.specs.States.{State, empty_state}
use Rattle.skk_journal.specs.declared.fault.OpenFault.TheVariants as opening
use Rattle.learn_index.specs.declared.plan.Plan.{Plan}
use Rattle.learn_index.specs.declared.plan.Plan.TheVariants.{Still, Move}
use Rattle.learned_store.specs.declared.form.PayloadForm.{PayloadForm}
use Rattle.learned_store.specs.declared.form.PayloadForm.TheVariants.{Put, Drop, SetCount, Note}
use Rattle.learned_store.specs.declared.recovery.RecoverFault.TheVariants as recovering
use Rattle.learned_store.specs.declared.writing.Record.{Record}
use Rattle.learned_store.specs.Payloads.{payload_of}
use Rattle.learned_store.specs.Recovering.{IsBreak, refusal_of}
use Rattle.learned_store.specs.Written.{may_stand, TellsOf, IsRecordOf}
use Rattle.learned_store.proofs.SmallFiles.{first, learn, nothing, nothing_says, old}

abbrev key : RowKey
key = record { part = Nasi; reading = codes "か" }

abbrev row : ℕ → Row
row stamp =
    record { key = key; cands = record { word = codes "蚊"; note = [] } ∷ []; blocks = []; hides = []; stamp = stamp }

abbrev noted : Cand
noted = record { word = codes "蚊"; note = codes "虫" }

-- a row that may not stand in a book of its count, a key of no reading, and a note behind a count of 0 may not be
-- written
may : map may_stand (
    Put 1 1 (row 1) ∷ Put 1 1 (row 2) ∷ Drop 1 1 key ∷ Drop 1 1 (record { part = Nasi; reading = [] }) ∷ SetCount 1 0
    ∷ Note 1 1 key noted ∷ Note 1 0 key noted ∷ Note 1 1 (record { part = Nasi; reading = [] }) noted ∷ [])
    ≡ true ∷ false ∷ true ∷ false ∷ true ∷ true ∷ false ∷ false ∷ []
unfolding lib.Utf8.encode
may = refl

-- what a plan that changes something is written as: what stands then, and of a note that of a row which is there
abbrev plan : Option Row → Plan
plan after = Move 1 1 key after Restored

abbrev one_row : State
one_row = record { books = record { number = 1; count = 1; rows = row 1 ∷ [] } ∷ []; lists = [] }

abbrev note_call : Call
note_call = Annotate 1 key noted

abbrev tells_of : State → Call → Option Row → PayloadForm → ℕ → Type 0
tells_of state call after form version =
    TellsOf state call (plan after) (record { payload = payload_of form; version = version })

tells : tells_of empty_state learn (Some (row 1)) (Put 1 1 (row 1)) 1 × tells_of empty_state learn None (Drop 1 1 key) 1
    × tells_of one_row note_call (Some (row 1)) (Note 1 1 key noted) 2
    × tells_of empty_state note_call (Some (row 1)) (Put 1 1 (row 1)) 1
unfolding lib.Utf8.encode
tells = (
  record { is = refl; version = refl; sound = λ stands. refl },
  record { is = refl; version = refl; sound = λ stands. refl },
  record { is = refl; version = refl; sound = λ stands. refl },
  record { is = refl; version = refl; sound = λ stands. refl },
)

-- and in no other version; and nothing is told of a plan that changes nothing
abbrev none : Record
none = record { payload = []; version = 1 }

tells_not : (¬ tells_of one_row note_call (Some (row 1)) (Note 1 1 key noted) 1)
    × (¬ TellsOf empty_state learn (Still Unchanged) none) × IsRecordOf empty_state learn (Still Unchanged) None
    × (¬ IsRecordOf empty_state learn (plan None) None)
    × (¬ IsRecordOf empty_state learn (Still Unchanged) (Some none))
tells_not = (λ is. omega (arith, is.version), λ is. is, tt, λ is. is, λ is. is)

-- want of memory breaks off nowhere; records break off where the first of them stands that says nothing
breaks : IsBreak (old []) recovering.Memory × IsBreak (old (nothing ∷ first ∷ [])) (recovering.Break 17)
breaks = (
  tt,
  record {
    before = [];
    payload = nothing;
    behind = first ∷ [];
    state = empty_state;
    is = refl;
    left = refl;
    none = nothing_says 1 empty_state;
    place = refl;
  },
)

-- want of memory is the refusal of its name, and a place is told of the file of this number and version, with no
-- records
refusals : map (refusal_of 0 1) (recovering.Memory ∷ recovering.Break 47 ∷ [])
    ≡ opening.Memory ∷ opening.BadRecord 0 47 1 [] ∷ []
refusals = refl

second_refusals : map (refusal_of 1 2) (recovering.Memory ∷ recovering.Break 17 ∷ [])
    ≡ opening.Memory ∷ opening.BadRecord 1 17 2 [] ∷ []
second_refusals = refl
