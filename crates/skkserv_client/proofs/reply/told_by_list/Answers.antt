use Rattle.std.proofs.Common.{◌∙◌}
use Rattle.skkserv_client.proofs.Listed.{told-list, told-no-text}
use Rattle.skkserv_client.proofs.reply.told_by_list.Goals as goal

pub returns-in-Ok : goal.returns-in-Ok
returns-in-Ok c =
    let read = c.in-Ok.ensures.cases in
    told-list c.args.what.now c.args.line.now c.in-Ok.line.now c.told_by_text.result read.0 read.1
    c.told_by_text.ensures

pub returns-in-Err : goal.returns-in-Err
returns-in-Err c =
    told-no-text c.args.what.now c.args.line.now c.valid_up_to.result c.in-Err.ensures.cases.0
    (c.valid_up_to.ensures ∙ c.in-Err.ensures.valid_len)
