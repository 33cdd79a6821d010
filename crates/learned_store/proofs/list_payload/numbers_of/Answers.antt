use Rattle.std.specs.Int.{w16}
use Rattle.exact_readers.specs.NumberLaws.{number-exact, told_16}
use Rattle.learned_store.proofs.list_payload.numbers_of.Goals as goal

pub read_many-requires : goal.read_many-requires
read_many-requires c = number-exact w16 told_16
