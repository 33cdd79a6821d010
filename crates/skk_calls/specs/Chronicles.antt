-- What a chronicle holds: an opening, and the history behind it.
use Rattle.std.specs.Prelude.{Bool, true, false, Option, None, Some, List, [], ◌∷◌}
use Rattle.std.specs.List.{filter_map, list_all}
use Rattle.skk_calls.specs.declared.chronicle.Noted.{Noted}
use Rattle.skk_calls.specs.declared.chronicle.Noted.TheVariants.{Opened, Entered}
use Rattle.skk_calls.specs.declared.entry.Entry.{Entry}
use Rattle.skk_calls.specs.Histories.{Opening}

-- what is noted as an opening
abbrev pub noted_opening : Noted → Option Opening
noted_opening (Opened files state end limit time faults) =
    Some (record { files = files; state = state; end = end; limit = limit; time = time; faults = faults })
noted_opening (Entered number call answer time faults) = None

-- what is noted as an entry
abbrev pub noted_entry : Noted → Option Entry
noted_entry (Opened files state end limit time faults) = None
noted_entry (Entered number call answer time faults) =
    Some (record { number = number; call = call; answer = answer })

-- something noted is an entry
abbrev pub is_entry : Noted → Bool
is_entry (Opened files state end limit time faults) = false
is_entry (Entered number call answer time faults) = true

-- a list of what was noted has an opening first and nowhere else
abbrev pub is_chronicle : List Noted → Bool
is_chronicle [] = false
is_chronicle (Opened files state end limit time faults ∷ rest) = list_all is_entry rest
is_chronicle (Entered number call answer time faults ∷ rest) = false

-- the opening of a chronicle, which an empty one lacks
abbrev pub opening_of : List Noted → Option Opening
opening_of [] = None
opening_of (first ∷ rest) = noted_opening first

-- the history of a chronicle: what was entered, in order
abbrev pub history_of : List Noted → List Entry
history_of chronicle = filter_map noted_entry chronicle

-- what a trace notes, which may not be there
abbrev pub noted : Option (List Noted) → List Noted
noted None = []
noted (Some trace) = trace

-- a trace that is there is a chronicle
abbrev pub is_chronicle_or_none : Option (List Noted) → Bool
is_chronicle_or_none None = true
is_chronicle_or_none (Some trace) = is_chronicle trace
