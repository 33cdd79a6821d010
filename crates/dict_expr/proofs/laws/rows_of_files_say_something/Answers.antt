use Rattle.std.proofs.Common.{refl}
use Rattle.dict_format.specs.FileLines.{entries_of, none_listed}
use Rattle.dict_expr.proofs.FileRows.{entries_say}
use Rattle.dict_expr.proofs.laws.rows_of_files_say_something.Goals as goal

pub returns : goal.returns
returns c bytes listed lists = entries_say none_listed (entries_of bytes) listed lists.entries refl
