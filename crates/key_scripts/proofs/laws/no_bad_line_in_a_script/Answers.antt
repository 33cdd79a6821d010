use Rattle.key_scripts.proofs.Scripts.{no_bad_line}
use Rattle.key_scripts.proofs.laws.no_bad_line_in_a_script.Goals as goal

pub returns : goal.returns
returns c = no_bad_line c.one_list_of_keys.ensures
