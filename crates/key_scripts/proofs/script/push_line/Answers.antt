use Rattle.std.proofs.Common.{subst, Some}
use Rattle.key_scripts.specs.Script.{MayFollow, Spells}
use Rattle.key_scripts.proofs.Scripts.{one_said}
use Rattle.key_scripts.proofs.script.push_line.Goals as goal

pub returns-then-not-mark-clause-none : goal.returns-then-not-mark-clause-none
returns-then-not-mark-clause-none c = λ none said spells follows.
    c.mark.ensures.no c.if-not-mark.true c.args.lines.now c.requires
    (subst (MayFollow c.args.lines.now) (one_said c.one_list_of_keys.ensures c.args.text.now said (Some c.in-Some.line)
    spells (subst (Spells c.args.text.now) c.in-Some.is c.in_ok-line.ensures.ok)) follows)
