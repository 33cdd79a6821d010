use Rattle.session_world.proofs.Stepping.{steps-out}
use Rattle.session_world.proofs.steps.crash.Goals as goal

pub returns-in_err-reopen : goal.returns-in_err-reopen
returns-in_err-reopen c =
    let out = c.from_residual in steps-out _ c.args.world out.result out.ensures.1
