use Rattle.std.proofs.Common.{arith}
use Rattle.std.proofs.Transfers.{starts_with_trans}
use Rattle.session_machine.proofs.Forms.{kept, kept-put}
use Rattle.session_machine.proofs.printing.push_line.Goals as goal

pub returns-clause-kept : goal.returns-clause-kept
returns-clause-kept c =
    let before = c.push_notice.new.page in
    starts_with_trans c.push-3.new.self before c.args.page.now
    (kept-put c.push-3.result before _ c.push-3.new.self c.push-3.ensures.ok c.push-3.ensures.err)
    (grind (arith, kept))
