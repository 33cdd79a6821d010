use Rattle.skk_text.proofs.KeySpelling.{same_keys}
use Rattle.skk_text.proofs.laws.one_list_of_keys.Goals as goal

pub returns : goal.returns
returns c = same_keys
