use Rattle.std.proofs.Common.{◌≡◌, ◌++◌, [], drop}
use Rattle.skk_calls.specs.Runs.{Runs, at}
use Rattle.script_typing.specs.Playing.{playing}
use Rattle.script_typing.proofs.playing.play_lines.Given as goal

-- what was said so far leads to the lines left
abbrev pub invariant-loop-line : goal.invariant-loop-line
invariant-loop-line g l =
    Runs (λ behind. playing l.rules l.fn.sessions.entries (l.lines ++ behind))
    (at (λ behind. playing l.rules l.sessions.entries (drop l.line-index l.lines ++ behind)))
    (g.C.Caller.said l.fn.caller) (g.C.Caller.said l.caller) (λ text. text ≡ [])
