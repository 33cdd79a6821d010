-- What system files have for a call.
use Rattle.std.specs.Prelude.{◌≡◌, ⊤, List, Result, IfOk}
use Rattle.std.specs.List.{filter_map}
use Rattle.skk_calls.specs.declared.call.Call.{Call}
use Rattle.skk_calls.specs.declared.call.Call.TheVariants.{Lookup}
use Rattle.skk_calls.specs.Rows.{Row}
use Rattle.skk_calls.specs.States.{row_in}

-- these are the rows of a look-up's key in these files, unless memory was wanting where they were sought; of any other
-- call nothing is said
abbrev pub AreFileRows : {E : Type 0} → List (List Row) → Call → Result (List Row) E → Type 0
AreFileRows files (Lookup who key okuri) found = IfOk found (λ rows. rows ≡ filter_map (row_in key) files)
AreFileRows files call found = ⊤
