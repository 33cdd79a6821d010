use Rattle.std.proofs.Common.{[]}
use Rattle.key_scripts.proofs.Scripts.{one_list_of_lines}
use Rattle.key_scripts.proofs.laws.one_script.Goals as goal

pub returns : goal.returns
returns c = one_list_of_lines c.one_list_of_keys.ensures []
