use Rattle.dict_files.proofs.Walking.{readings_complete, walked_plain}
use Rattle.dict_files.proofs.laws.walks_go_over_completions.Goals as goal

pub returns-clause-readings : goal.returns-clause-readings
returns-clause-readings c = walked_plain

pub returns-clause-completions : goal.returns-clause-completions
returns-clause-completions c = readings_complete
