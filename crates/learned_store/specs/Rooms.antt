-- Where the record of a change goes.
use Rattle.std.specs.Prelude.{◌≡◌, ℕ, ◌+◌, ◌<◌, ◌≤◌, Bool, true, false, ◌&&◌, nat_le, map}
use Rattle.skk_calls.specs.Histories.{tight}
use Rattle.skk_calls.specs.States.{State}
use Rattle.skk_journal.specs.Records.{framed}
use Rattle.learned_store.specs.declared.room.Room.{Room}
use Rattle.learned_store.specs.declared.room.Room.TheVariants.{Behind, Compacted, Full}
use Rattle.learned_store.specs.Payloads.{payload_of}
use Rattle.learned_store.specs.Compacted.{compacted}

-- within a limit, a record that a version first has and that needs so many bytes goes behind those of a live file of a
-- version that ends here: that version has it, and it fits
abbrev pub goes_behind : ℕ → ℕ → ℕ → ℕ → ℕ → Bool
goes_behind limit version end first need = nat_le first version && nat_le (end + need) limit

-- for a record that goes behind those of the live file of a state or does not, and needs so many bytes, there is room
-- within a limit: there; or else behind the records of a compaction in the other file, where the state leaves room for
-- it; or nowhere
abbrev pub IsRoom : State → Bool → ℕ → ℕ → Room → Type 0
IsRoom state behind limit need Behind = behind ≡ true
IsRoom state behind limit need (Compacted records) =
    (behind ≡ false) × (tight state + need ≤ limit) × (records ≡ framed (map payload_of (compacted state)))
IsRoom state behind limit need (Full at) = (behind ≡ false) × (at ≡ tight state) × (limit < tight state + need)
