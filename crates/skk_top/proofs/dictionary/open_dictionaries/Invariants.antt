use Rattle.std.proofs.Common.{◌≡◌, ◌≤◌, length, map, take}
use Rattle.skk_top.specs.Dictionaries.{AreRowsOf}
use Rattle.skk_top.proofs.dictionary.open_dictionaries.Given as goal

-- the books are the rows of the files of the names so far
abbrev pub invariant-loop-name : goal.invariant-loop-name
invariant-loop-name g l = record {
  rows : AreRowsOf l.files (map (g.H.Shelf.file l.fn.shelf) (take l.name-index l.names));
  count : length l.files ≡ l.name-index;
  kept : g.H.Shelf.file l.shelf ≡ g.H.Shelf.file l.fn.shelf;
  counted : g.H.Shelf.faults l.fn.shelf ≤ g.H.Shelf.faults l.shelf;
}
