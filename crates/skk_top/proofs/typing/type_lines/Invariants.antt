use Rattle.std.proofs.Common.{◌++◌, Ok, drop}
use Rattle.skk_outside.specs.Moved.{moved_sink}
use Rattle.skk_calls.specs.Runs.{Runs, at}
use Rattle.script_typing.specs.Typed.{typing}
use Rattle.skk_top.specs.Typing.{PrintsPage}
use Rattle.skk_top.proofs.typing.type_lines.Given as goal

-- what was said and printed so far leads to the lines left
abbrev pub invariant-loop-line : goal.invariant-loop-line
invariant-loop-line g l =
    Runs (λ behind. typing l.rules l.fn.progress.sessions.entries (l.lines ++ behind))
    (at (λ behind. typing l.rules l.progress.sessions.entries (drop l.line-index l.lines ++ behind)))
    (g.C.Caller.said l.fn.caller) (g.C.Caller.said l.caller)
    (λ text. PrintsPage (l.fn.progress.page ++ text) l.progress.page (Ok tt) (moved_sink g.O.Outside l.fn.out l.out))
