use Rattle.std.proofs.Common.{◌≡◌, map, take}
use Rattle.std.specs.List.{filter_map}
use Rattle.skk_calls.specs.States.{row_in}
use Rattle.dict_layers.specs.SystemFiles.{rows_in}
use Rattle.dict_layers.proofs.system.System.find.Given as goal

-- the rows so far are those of the files so far
abbrev pub invariant-loop-file : goal.invariant-loop-file
invariant-loop-file l = l.found ≡ filter_map (row_in l.key) (map rows_in (take l.file-index l.file-items))
