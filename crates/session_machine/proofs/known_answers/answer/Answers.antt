use Rattle.session_machine.proofs.Replays.{replay-refused-before}
use Rattle.session_machine.proofs.known_answers.answer.Goals as goal

pub returns-else-is_giving-clause-said : goal.returns-else-is_giving-clause-said
returns-else-is_giving-clause-said c =
    λ answers said before. replay-refused-before answers c.args.known.now said c.args.call.now
    (c.is_giving.ensures.other c.if-is_giving.false) before
