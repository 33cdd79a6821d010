use Rattle.learned_store.proofs.Sized.{sound_sized}
use Rattle.learned_store.proofs.laws.sound_records_fit.Goals as goal

pub returns : goal.returns
returns c = sound_sized
