use Rattle.std.proofs.Common.{◌≡◌, ◌≤◌, vec_len}
use Rattle.std.specs.Io.KnownBytes.{Consumes}
use Rattle.skk_outside.specs.declared.source.TheConstants.{PIECE}
use Rattle.skk_outside.proofs.source.read_to_end.Given as goal

-- the bytes are those taken from the source, at least one in each round
abbrev pub invariant-loop : goal.invariant-loop
invariant-loop g l = record {
  progress : l.counter ≤ vec_len l.bytes;
  fits : vec_len l.bytes ≤ l.limit;
  taken : Consumes (g.S.Outside.left l.fn.source) (g.S.Outside.left l.source) l.bytes.items;
  counted : g.S.Outside.faults l.fn.source ≤ g.S.Outside.faults l.source;
  room : vec_len l.piece ≡ PIECE;
}
