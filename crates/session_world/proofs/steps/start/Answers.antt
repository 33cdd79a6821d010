use Rattle.session_world.proofs.Stepping.{steps-out}
use Rattle.session_world.proofs.steps.start.Goals as goal

pub returns-in_err-start_key : goal.returns-in_err-start_key
returns-in_err-start_key c =
    let out = c.from_residual in steps-out _ c.args.world out.result out.ensures.1
