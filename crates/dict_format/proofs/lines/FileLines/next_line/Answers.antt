use Rattle.std.proofs.Common.{ap, sym}
use Rattle.dict_format.proofs.LineWalk.{line-read, line-stands}
use Rattle.dict_format.proofs.lines.FileLines.next_line.Goals as goal

pub invariant_of-self : goal.invariant_of-self
invariant_of-self c =
    line-read c.self.inside.text.now c.self.inside.rest.now c.in_ok-line.line.now c.in_ok-line.behind.now
    c.self.inside.number c.self.invariant c.in_ok-line.ensures

pub returns-clause-place : goal.returns-clause-place
returns-clause-place c =
    rw (c.trimmed_line-text.ensures, sym (ap (λ left. left.text) c.self.view_is))
    (line-stands c.self.inside.text.now c.self.inside.rest.now c.in_ok-line.line.now c.in_ok-line.behind.now
    c.self.inside.number c.self.invariant c.in_ok-line.ensures)
