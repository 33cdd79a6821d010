use Rattle.std.proofs.Common.{drop}
use Rattle.script_typing.specs.Workers.{StaysOwn}
use Rattle.script_typing.proofs.Own.{ReachesOwn}
use Rattle.script_typing.proofs.worker.Worker.type_lines.Given as goal

-- what was said and printed so far leads to the lines left
abbrev pub invariant-loop-line : goal.invariant-loop-line
invariant-loop-line g l = record {
  stays : StaysOwn g.C.Caller l.fn.self l.self;
  reached : ReachesOwn g.C.Caller l.rules l.lines (drop l.line-index l.lines) l.fn.self l.self;
}
