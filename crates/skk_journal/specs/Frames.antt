-- What stands at the place of a gate.
use Rattle.std.specs.Prelude.{◌≡◌, ◌≢◌, ℕ, true, Some, List, ◌∷◌}
use Rattle.std.specs.Option.{option_map}
use Rattle.skk_journal.specs.declared.frame.RecordFrame.{RecordFrame}
use Rattle.skk_journal.specs.declared.frame.RecordFrame.TheVariants.{Record, End, Bad}
use Rattle.skk_journal.specs.Records.{open_record}
use Rattle.skk_journal.specs.Opening.{is_bad}

-- a gate stands there that is closed
abbrev pub Ends : List ℕ → Type 0
Ends tail = (gate : ℕ) × (rest : List ℕ) × (tail ≡ gate ∷ rest) × (gate ≢ 1)

-- from the place of a gate on, the bytes begin so: a record is read of them, a closed gate ends them, or they are bad
abbrev pub IsFrame : List ℕ → RecordFrame → Type 0
IsFrame tail (Record payload) = option_map (λ read. read.0) (open_record.step tail) ≡ Some payload.now
IsFrame tail End = Ends tail
IsFrame tail Bad = is_bad tail ≡ true
