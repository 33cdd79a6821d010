use Rattle.dict_laws.proofs.FirstLayer.{first_layer}
use Rattle.dict_laws.proofs.laws.no_row_hides_its_own_words.Goals as goal

pub returns : goal.returns
returns c = first_layer
