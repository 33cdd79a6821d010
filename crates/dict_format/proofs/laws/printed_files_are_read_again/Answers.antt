use Rattle.dict_format.proofs.FilesAgain.{entries_again, file_again}
use Rattle.dict_format.proofs.laws.printed_files_are_read_again.Goals as goal

pub returns-clause-lists : goal.returns-clause-lists
returns-clause-lists c = file_again

pub returns-clause-entries : goal.returns-clause-entries
returns-clause-entries c = entries_again
