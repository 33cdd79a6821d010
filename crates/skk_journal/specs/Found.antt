-- Records that were read, with their places.
use Rattle.std.specs.Prelude.{ℕ, ◌+◌, List, [], ◌∷◌, map}
use Rattle.skk_journal.specs.declared.found.FoundRecord.{FoundRecord}
use Rattle.skk_journal.specs.Records.{need}

-- the payloads of records
abbrev pub payloads : List FoundRecord → List (List ℕ)
payloads records = map (λ found. found.payload) records

-- the records of these payloads, one behind another, the first one's gate at this place
abbrev pub found_from : ℕ → List (List ℕ) → List FoundRecord
found_from at [] = []
found_from at (payload ∷ payloads) = record { at = at; payload = payload } ∷ found_from (at + need payload) payloads
