use Rattle.key_scripts.proofs.LineReading.{same_opening}
use Rattle.key_scripts.proofs.laws.one_typist_and_book.Goals as goal

pub returns : goal.returns
returns c = same_opening
