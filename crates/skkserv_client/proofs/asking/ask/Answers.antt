use Rattle.std.proofs.Common.{[], append-nil, subst, sym}
use Rattle.skk_outside.specs.Written.{AppendsPrefix}
use Rattle.skkserv_client.specs.Questions.{request_of}
use Rattle.skkserv_client.proofs.Heard.{hears-fault, hears-told, link-stood}
use Rattle.skkserv_client.proofs.Results.{on_err}
use Rattle.skkserv_client.proofs.asking.ask.Goals as goal

pub returns-in_err-line-clause-told : goal.returns-in_err-line-clause-told
returns-in_err-line-clause-told g c =
    hears-fault (g.K.Outside.left c.args.link.now) (g.K.Outside.left c.send_request.new.link)
    c.in_ok-send_request.ensures.left c.args.what.now c.from_residual-in_err-line.result c.in_err-line.field-0.0
    c.from_residual-in_err-line.ensures.1 c.in_err-line.ensures.heard

-- the request was sent before its reply is heard
pub returns-in_err-line-clause-begun : goal.returns-in_err-line-clause-begun
returns-in_err-line-clause-begun g c =
    let written = g.K.Outside.written in
    let bytes = request_of c.args.what.now in
    on_err c.from_residual-in_err-line.result
    (subst (λ told. AppendsPrefix (written c.args.link.now) told bytes) (sym c.in_err-line.ensures.written)
    (bytes, ([], sym (append-nil bytes)), c.in_ok-send_request.ensures.sent))

pub returns-clause-told : goal.returns-clause-told
returns-clause-told g c =
    hears-told (g.K.Outside.left c.args.link.now) (g.K.Outside.left c.send_request.new.link)
    c.in_ok-send_request.ensures.left c.args.what.now c.in_ok-line.line c.without_return.result.now
    c.told_by_line.result c.in_ok-line.ensures.heard (rw c.as_slice.ensures at c.without_return.ensures)
    c.told_by_line.ensures

pub returns-clause-begun : goal.returns-clause-begun
returns-clause-begun g c =
    let written = g.K.Outside.written in
    let bytes = request_of c.args.what.now in
    on_err c.told_by_line.result
    (subst (λ told. AppendsPrefix (written c.args.link.now) told bytes) (sym c.in_ok-line.ensures.written)
    (bytes, ([], sym (append-nil bytes)), c.in_ok-send_request.ensures.sent))

pub returns-clause-failed : goal.returns-clause-failed
returns-clause-failed g c =
    link-stood c.args.what.now c.without_return.result.now c.told_by_line.result c.told_by_line.ensures
