use Rattle.std.proofs.Common.{◌≡◌, ◌≤◌, length, take}
use Rattle.std.specs.Io.KnownBytes.{Appends}
use Rattle.skk_outside.proofs.sink.write_all.Given as goal

-- a prefix of the bytes is written, at least a byte in each round
abbrev pub invariant-loop : goal.invariant-loop
invariant-loop g l = record {
  within : l.done ≤ length l.bytes;
  progress : l.counter ≤ l.done;
  written : Appends (g.S.Outside.written l.fn.sink) (g.S.Outside.written l.sink) (take l.done l.bytes);
  left : g.S.Outside.left l.sink ≡ g.S.Outside.left l.fn.sink;
  counted : g.S.Outside.faults l.fn.sink ≤ g.S.Outside.faults l.sink;
}
