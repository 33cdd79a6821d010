use Rattle.std.proofs.Common.{refl}
use Rattle.script_typing.proofs.Own.{own-lost}
use Rattle.script_typing.proofs.worker.Worker.type_line.Goals as goal

-- what the keys ask was said, though their page is not there
pub returns-in_err-push_output_line-in-Keys : goal.returns-in_err-push_output_line-in-Keys
returns-in_err-push_output_line-in-Keys g c =
    own-lost g.C.Caller c.args.rules.now c.args.line.now c.play_in_session.new.session c.args.self.now _
    c.from_residual-in_err-push_output_line-in-Keys.result _
    c.from_residual-in_err-push_output_line-in-Keys.ensures.1 refl c.in_ok-play_in_session-in-Keys.ensures refl

pub returns-in_err-push-in-Keys : goal.returns-in_err-push-in-Keys
returns-in_err-push-in-Keys g c =
    own-lost g.C.Caller c.args.rules.now c.args.line.now c.play_in_session.new.session c.args.self.now _
    c.from_residual-in_err-push-in-Keys.result _ c.from_residual-in_err-push-in-Keys.ensures.1 refl
    c.in_ok-play_in_session-in-Keys.ensures c.in_err-push-in-Keys.ensures.err
