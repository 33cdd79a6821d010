use Rattle.learned_store.proofs.CompactedStates.{compacted_leave}
use Rattle.learned_store.proofs.WrittenStates.{left_valid, left_written, compacted_sound, sound_all_sized}
use Rattle.learned_store.specs.Compacted.{compacted}
use Rattle.learned_store.proofs.laws.compacted_records_leave_their_state.Goals as goal

pub returns-clause-again : goal.returns-clause-again
returns-clause-again c =
    λ contents state leave.
    compacted_leave state (left_valid contents state leave) (left_written contents state leave)

pub returns-clause-left : goal.returns-clause-left
returns-clause-left c = λ contents state leave. (left_valid contents state leave, left_written contents state leave)

pub returns-clause-leave : goal.returns-clause-leave
returns-clause-leave c = compacted_leave

pub returns-clause-sound : goal.returns-clause-sound
returns-clause-sound c = compacted_sound

pub returns-clause-sized : goal.returns-clause-sized
returns-clause-sized c = λ state written. sound_all_sized (compacted state) (compacted_sound state written)
