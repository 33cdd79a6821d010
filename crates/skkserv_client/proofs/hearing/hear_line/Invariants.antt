use Rattle.std.proofs.Common.{◌≡◌, ◌≤◌, length, vec_len}
use Rattle.std.specs.Io.KnownBytes.{Consumes}
use Rattle.skkserv_client.specs.declared.hearing.TheConstants.{PIECE}
use Rattle.skkserv_client.specs.Hearing.{IsBegunLine}
use Rattle.skkserv_client.proofs.hearing.hear_line.Given as goal

-- the bytes of the line are those that were taken from the link, at least one in each round
abbrev pub invariant-loop : goal.invariant-loop
invariant-loop g l = record {
  progress : l.counter ≤ length l.line;
  begun : IsBegunLine l.line;
  taken : Consumes (g.K.Outside.left l.fn.link) (g.K.Outside.left l.link) l.line;
  written : g.K.Outside.written l.link ≡ g.K.Outside.written l.fn.link;
  counted : g.K.Outside.faults l.fn.link ≤ g.K.Outside.faults l.link;
  room : vec_len l.piece ≡ PIECE;
}
