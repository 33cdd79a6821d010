-- The rows of a system file.
use Rattle.std.specs.Prelude.{List}
use Rattle.skk_calls.specs.Rows.{Row}
use Rattle.dict_layers.specs.declared.system_file.SystemFile.{SystemFile}
use Rattle.dict_layers.specs.declared.system_file.SystemFile.TheVariants.{Rows, Bytes}

-- the rows that were given, or those that the file lists
abbrev pub rows_in : SystemFile → List Row
rows_in (Rows rows) = rows
rows_in (Bytes rows) = rows
