use Rattle.std.proofs.Common.{◌≡◌, true, map}
use Rattle.std.specs.List.{list_all}
use Rattle.dict_files.specs.Files.{is_file}
use Rattle.dict_layers.specs.SystemFiles.{rows_in}
use Rattle.dict_layers.proofs.system.System.of_books.Given as goal

-- the files so far have the rows of the books so far, which are those of files
abbrev pub invariant-loop-book : goal.invariant-loop-book
invariant-loop-book l = record {
  rows : map rows_in l.files.items ≡ l.yielded;
  files : list_all is_file (map rows_in l.files.items) ≡ true;
}
