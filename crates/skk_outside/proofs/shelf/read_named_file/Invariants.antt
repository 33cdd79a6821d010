use Rattle.std.proofs.Common.{◌≡◌, ◌≤◌, vec_len}
use Rattle.skk_outside.specs.Shelves.{StandsAt}
use Rattle.skk_outside.specs.declared.source.TheConstants.{PIECE}
use Rattle.skk_outside.proofs.shelf.read_named_file.Given as goal

-- the bytes are the file's from its head on, at least one from each round
abbrev pub invariant-loop : goal.invariant-loop
invariant-loop g l = record {
  progress : l.counter ≤ vec_len l.bytes;
  fits : vec_len l.bytes ≤ l.limit;
  head : StandsAt (g.H.Shelf.file l.fn.shelf l.name) 0 l.bytes.items;
  kept : g.H.Shelf.file l.shelf ≡ g.H.Shelf.file l.fn.shelf;
  counted : g.H.Shelf.faults l.fn.shelf ≤ g.H.Shelf.faults l.shelf;
  room : vec_len l.piece ≡ PIECE;
}
