use Rattle.session_world.proofs.Stepping.{steps-out}
use Rattle.session_world.proofs.steps.refuse.Goals as goal

pub returns-in_err-call : goal.returns-in_err-call
returns-in_err-call c =
    let out = c.from_residual in steps-out _ c.args.world out.result out.ensures.1

pub returns-in_err-may_refuse : goal.returns-in_err-may_refuse
returns-in_err-may_refuse c =
    let out = c.from_residual-in_err-may_refuse in steps-out _ c.args.world out.result out.ensures.1

pub returns-in_err-enter : goal.returns-in_err-enter
returns-in_err-enter c =
    let out = c.from_residual-in_err-enter in steps-out _ c.args.world out.result out.ensures.1
