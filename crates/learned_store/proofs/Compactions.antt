-- The bytes that a compaction writes of a state: where they end, and that they are records which leave it.
use Rattle.std.proofs.Common.{◌≡◌, ℕ, ◌+◌, Option, None, Some, List, map, length, ap, arith}
use Rattle.skk_disk.specs.declared.disk.Disk.{Ghosts}
use Rattle.skk_calls.specs.Histories.{tight}
use Rattle.skk_calls.specs.States.{State}
use Rattle.skk_journal.specs.Contents.{Contents}
use Rattle.skk_journal.specs.Journal.{OpenJournal}
use Rattle.skk_journal.specs.Records.{first_place, framed}
use Rattle.learned_store.specs.Compacted.{compacted}
use Rattle.learned_store.specs.Payloads.{payload_of}
use Rattle.learned_store.specs.Recovered.{Leave}
use Rattle.learned_store.specs.Stores.{IsCompaction, Keeps}
use Rattle.learned_store.proofs.CompactedStates.{compacted_leave}
use Rattle.learned_store.proofs.TightEnds.{compacted_end}
use Rattle.learned_store.proofs.WrittenStates.{left_valid, left_written, compacted_sound, sound_all_sized}

module _ (state : State) (bytes : List ℕ) (is : bytes ≡ framed (map payload_of (compacted state))) where
  -- a file that has just them ends at the tight end
  pub compacted_bytes : first_place + 1 + length bytes ≡ tight state
  compacted_bytes = omega (arith, ap length is, compacted_end state)

  left_compaction : (contents : Contents) → Leave contents state → IsCompaction state bytes
  left_compaction contents leave =
      let valid = left_valid contents state leave in
      let written = left_written contents state leave in
      let sized = sound_all_sized (compacted state) (compacted_sound state written) in
      (map payload_of (compacted state), sized, is, compacted_leave state valid written)

  -- where a journal keeps the state, they are its compaction
  pub kept_compaction : {D : Type 0} (disk : Ghosts D) (journal : OpenJournal D)
      (doubt : Option State) → Keeps disk journal state doubt → IsCompaction state bytes
  kept_compaction disk journal None (newest, contents, leave, rests) = left_compaction contents leave
  kept_compaction disk journal (Some doubted) (newest, contents, others, leave, doubted_leave, doubts) =
      left_compaction contents leave
