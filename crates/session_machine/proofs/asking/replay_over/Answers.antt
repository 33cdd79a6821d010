use Rattle.std.proofs.Common.{◌∙◌, ◌++◌, ap, subst, sym}
use Rattle.skk_calls.specs.Interactions.{Comes}
use Rattle.session_machine.specs.Pressed.{pressed}
use Rattle.session_machine.specs.Session.{Session}
use Rattle.session_machine.proofs.asking.replay_over.Goals as goal

pub returns-clause-next : goal.returns-clause-next
returns-clause-next g c =
    let rules = c.args.rules.now in
    let meaning = pressed rules c.args.session.now c.args.key in
    let end = c.in_ok-end.end in
    let says = c.in_ok-end.ensures in
    let said = says.grows ∙ ap (λ d. d ++ says.dialog) c.in_ok-replay.ensures in
    c.close.ensures.next meaning
    (subst (λ d. Comes meaning d end) (sym said)
    (subst (λ (s : Session). Comes (pressed rules s c.args.key) says.dialog end) c.in_ok-copy.ensures says.ok))

pub returns-clause-end : goal.returns-clause-end
returns-clause-end g c =
    let rules = c.args.rules.now in
    let meaning = pressed rules c.args.session.now c.args.key in
    let end = c.in_ok-end.end in
    let says = c.in_ok-end.ensures in
    let said = says.grows ∙ ap (λ d. d ++ says.dialog) c.in_ok-replay.ensures in
    c.close.ensures.end meaning
    (subst (λ d. Comes meaning d end) (sym said)
    (subst (λ (s : Session). Comes (pressed rules s c.args.key) says.dialog end) c.in_ok-copy.ensures says.ok))
