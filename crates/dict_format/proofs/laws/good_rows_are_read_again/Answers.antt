-- The canonical line of a good row spells it.
use Rattle.dict_format.proofs.LinesAgain.{canonical_spells}
use Rattle.dict_format.proofs.laws.good_rows_are_read_again.Goals as goal

pub returns : goal.returns
returns c = canonical_spells
