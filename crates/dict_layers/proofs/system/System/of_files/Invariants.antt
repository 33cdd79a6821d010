use Rattle.std.proofs.Common.{◌≡◌, true, map}
use Rattle.std.specs.List.{list_all}
use Rattle.dict_files.specs.Files.{is_file}
use Rattle.dict_layers.specs.SystemFiles.{rows_in}
use Rattle.dict_layers.proofs.system.System.of_files.Given as goal

-- the files so far have the rows of those that were given
abbrev pub invariant-loop-file : goal.invariant-loop-file
invariant-loop-file l = record {
  rows : map rows_in l.system.items ≡ l.yielded;
  files : list_all is_file (map rows_in l.system.items) ≡ true;
}
