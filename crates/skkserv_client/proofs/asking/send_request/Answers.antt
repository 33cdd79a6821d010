use Rattle.std.proofs.Common.{◌∙◌, [], append-nil, subst, sym}
use Rattle.std.proofs.KnownBytes.{Appends-kept}
use Rattle.skk_outside.specs.Written.{AppendsPrefix}
use Rattle.skkserv_client.proofs.Results.{on_err}
use Rattle.skkserv_client.proofs.asking.send_request.Goals as goal

pub returns-in_err-flush-clause-begun : goal.returns-in_err-flush-clause-begun
returns-in_err-flush-clause-begun g c =
    let written = g.K.Outside.written in
    let bytes = c.as_slice.result.now in
    on_err c.from_residual-in_err-flush.result
    (subst (AppendsPrefix (written c.args.link.now) (written c.flush.new.self))
    (c.as_slice.ensures ∙ c.in_ok-request.ensures) (
      bytes,
      ([], sym (append-nil bytes)),
      Appends-kept (written c.args.link.now) (written c.write_all.new.sink) (written c.flush.new.self) bytes
          c.in_ok-write_all.ensures.ok c.in_err-flush.ensures.bytes,
    ))
