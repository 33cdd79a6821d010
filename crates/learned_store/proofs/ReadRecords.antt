-- Records that are read one after another.
use Rattle.std.proofs.Common.{◌≡◌, ℕ, ◌+◌, List, [], ◌∷◌, ◌++◌, length}
use Rattle.std.proofs.Common.{◌∙◌, arith}
use Rattle.std.proofs.lemmas.List.{length-append, map-append}
use Rattle.skk_calls.specs.States.{State}
use Rattle.skk_journal.specs.declared.found.FoundRecord.{FoundRecord}
use Rattle.skk_journal.specs.Found.{payloads, found_from}
use Rattle.skk_journal.specs.Records.{need, first_place, framed, record_bytes}
use Rattle.learned_store.specs.Payloads.{SaysNothing}
use Rattle.learned_store.specs.Recovered.{Leave, BreakAt}

-- the gate of a record stands behind those before it
gate_at : (at : ℕ) (before rest : List FoundRecord) (found : FoundRecord)
    → before ++ found ∷ rest ≡ found_from at (payloads (before ++ found ∷ rest))
    → found.at ≡ at + length (framed (payloads before))
unfolding need
gate_at at [] rest found is = grind arith
gate_at at (first ∷ before) rest found is =
    gate_at (at + length (record_bytes first.payload)) before rest found (grind arith)
    ∙ omega (arith, length-append (record_bytes first.payload) (framed (payloads before)))

module _ (before rest : List FoundRecord) (found : FoundRecord) where
  -- the payloads with that of one record more
  pub payloads_next : payloads (before ++ found ∷ []) ≡ payloads before ++ found.payload ∷ []
  payloads_next = map-append (λ (one : FoundRecord). one.payload) before (found ∷ [])

  -- the first record of a file that says nothing stands behind those that were read
  pub break_at : before ++ found ∷ rest ≡ found_from first_place (payloads (before ++ found ∷ rest))
      → (version : ℕ) (state : State) → Leave (record { version = version; records = payloads before }) state
      → SaysNothing version state found.payload
      → BreakAt (record { version = version; records = payloads (before ++ found ∷ rest) }) found.at
  break_at places version state left none = record {
    before = payloads before;
    payload = found.payload;
    behind = payloads rest;
    state = state;
    is = map-append (λ (one : FoundRecord). one.payload) before (found ∷ rest);
    left = left;
    none = none;
    place = gate_at first_place before rest found places;
  }
