use Rattle.dict_format.proofs.EntryRows.{rows-listed}
use Rattle.dict_format.proofs.FileEntries.{listed-once, listed-some}
use Rattle.dict_format.proofs.laws.files_list_one_thing.Goals as goal

pub returns : goal.returns
returns c = record { once = listed-once; some = listed-some; rows = rows-listed }
