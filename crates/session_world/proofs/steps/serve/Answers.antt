use Rattle.std.proofs.Common.{◌∙◌, sym}
use Rattle.session_world.proofs.Stepping.{is-served, steps-out}
use Rattle.session_world.proofs.steps.serve.Goals as goal

pub returns : goal.returns
returns c =
    is-served c.args.world c.serve_call.new.world c.enter.new.world c.args.place c.in-Some.call c.in_ok-reply.reply
    (sym c.in_ok-call.ensures.asked ∙ c.in-Some.is) c.in_ok-reply.ensures.reply c.in_ok-reply.ensures.served
    c.in_ok-enter.ensures

pub returns-in_err-call : goal.returns-in_err-call
returns-in_err-call c =
    let out = c.from_residual in steps-out _ c.args.world out.result out.ensures.1

pub returns-in_err-reply : goal.returns-in_err-reply
returns-in_err-reply c =
    let out = c.from_residual-in_err-reply in steps-out _ c.args.world out.result out.ensures.1

pub returns-in_err-enter : goal.returns-in_err-enter
returns-in_err-enter c =
    let out = c.from_residual-in_err-enter in steps-out _ c.args.world out.result out.ensures.1
