-- What is written of a plan.
use Rattle.std.specs.Prelude.{◌≡◌, ⊤, ℕ, Bool, true, ◌&&◌, nat_le, Option, None, Some}
use Rattle.std.specs.Option.{option_map}
use Rattle.skk_calls.specs.declared.call.Call.{Call}
use Rattle.skk_calls.specs.declared.call.Call.TheVariants.{Annotate}
use Rattle.skk_calls.specs.BookLists.{is_book_list}
use Rattle.skk_calls.specs.Dictionary.{after, moves}
use Rattle.skk_calls.specs.Histories.{need}
use Rattle.skk_calls.specs.Rows.{RowKey, Cand, Row, is_row_key, is_cand}
use Rattle.skk_calls.specs.States.{State, row_at, fits_count}
use Rattle.skk_journal.specs.Records.{IsSized, need as record_need}
use Rattle.learn_index.specs.declared.plan.Plan.{Plan}
use Rattle.learn_index.specs.declared.plan.Plan.TheVariants.{Still, Move, Lists}
use Rattle.learned_store.specs.declared.form.PayloadForm.{PayloadForm}
use Rattle.learned_store.specs.declared.form.PayloadForm.TheVariants.{Put, Drop, SetCount, Note, SetList}
use Rattle.learned_store.specs.declared.writing.Record.{Record}
use Rattle.learned_store.specs.Payloads.{Says, first_version, is_sound, payload_of, row_told, state_told}
use Rattle.learned_store.specs.Payloads.{version_needed}

-- a record may be written as far as its numbers and the characters of what it spells have no say in it
abbrev pub may_stand : PayloadForm → Bool
may_stand (Put book count row) = fits_count count row
may_stand (Drop book count key) = is_row_key key
may_stand (SetCount book count) = true
may_stand (Note book count key cand) = nat_le 1 count && (is_row_key key && is_cand cand)
may_stand (SetList typist books) = is_book_list books

-- this is the record of a form, whose numbers are held and which spells characters
pub record IsWritten (form : PayloadForm) (written : Record) : Type 0 where
  pub is : written.payload ≡ payload_of form
  pub version : written.version ≡ first_version form
  pub sound : may_stand form ≡ true → is_sound form ≡ true

-- the key and the candidate of an annotation whose row is there
abbrev pub noted_in : State → Call → Option (RowKey × Cand)
noted_in state (Annotate book key cand) = option_map (λ row. (key, cand)) (row_at state book key)
noted_in state call = None

-- what the record of a call says after which a book has a count and a key of it this row or none: of an annotation
-- whose row is there the candidate with its note, and else the row
abbrev pub planned_told : Option (RowKey × Cand) → ℕ → ℕ → RowKey → Option Row → PayloadForm
planned_told None book count key row = row_told book count key row
planned_told (Some noted) book count key row = Note book count noted.0 noted.1

-- this is the record of a call that was planned at a state, which changes something
abbrev pub TellsOf : State → Call → Plan → Record → Type 0
TellsOf state call (Still reply) written = ⊥
TellsOf state call (Move book count key row reply) written =
    IsWritten (planned_told (noted_in state call) book count key row) written
TellsOf state call (Lists who list reply) written = IsWritten (SetList who list) written

-- so it is, and there is none exactly where nothing changes
abbrev pub IsRecordOf : State → Call → Plan → Option Record → Type 0
IsRecordOf state call (Still reply) None = ⊤
IsRecordOf state call (Move book count key row reply) None = ⊥
IsRecordOf state call (Lists who list reply) None = ⊥
IsRecordOf state call plan (Some written) = TellsOf state call plan written

-- a record tells of a call that changes a state what the call makes of it
pub record Told (state : State) (call : Call) (written : Record) : Type 0 where
  pub form : PayloadForm
  pub moved : moves state call ≡ true
  pub sized : IsSized written.payload
  pub says : (version : ℕ) → nat_le written.version version ≡ true → Says version state written.payload form
  pub leaves : state_told state form ≡ after state call
  pub needs : need state call ≡ record_need written.payload
  pub version : written.version ≡ version_needed state call
