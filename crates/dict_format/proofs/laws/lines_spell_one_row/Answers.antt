use Rattle.dict_format.proofs.LineReading.{read-exact, row_once, reason_once}
use Rattle.dict_format.proofs.RowsRead.{spelled-key, spelled-valid}
use Rattle.dict_format.proofs.laws.lines_spell_one_row.Goals as goal

pub returns : goal.returns
returns c =
    record { row = row_once; read = read-exact; valid = spelled-valid; key = spelled-key; reason = reason_once }
