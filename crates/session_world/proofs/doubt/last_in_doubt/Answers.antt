use Rattle.std.proofs.Common.{◌∙◌, ap, sym, None, []}
use Rattle.std.proofs.lemmas.List.{take_all}
use Rattle.std.specs.List.{fold}
use Rattle.session_world.specs.Doubts.{doubt_after}
use Rattle.session_world.proofs.Doubts.{last-in-doubt}
use Rattle.session_world.proofs.doubt.last_in_doubt.Goals as goal

pub returns-clause-last : goal.returns-clause-last
returns-clause-last c =
    let history = c.args.history.now in
    c.loop-entry.invariant.last
    ∙ ap (λ h. fold doubt_after None h) (take_all c.loop-entry.entry-index history c.loop-entry-test.false)
    ∙ sym (last-in-doubt [] c.args.history.now)
