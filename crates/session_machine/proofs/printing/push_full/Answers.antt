use Rattle.std.proofs.Common.{◌++◌, codes, arith}
use Rattle.std.specs.Fmt.{decimal}
use Rattle.std.specs.Str.{chars}
use Rattle.std.proofs.Transfers.{starts_with_trans}
use Rattle.std.proofs.lemmas.Result.{on_ok_weaker}
use Rattle.session_machine.proofs.Forms.{kept, more}
use Rattle.session_machine.proofs.printing.push_full.Goals as goal

pub returns-clause-ok : goal.returns-clause-ok
unfolding chars
returns-clause-ok c =
    let page = c.args.page.now in
    let one = codes "refused full " ++ decimal c.args.end in
    let two = one ++ codes " " ++ decimal c.args.need in
    on_ok_weaker c.push_number-3.result
    (more page (two ++ codes " ") (decimal c.args.limit)
    (more page two (codes " ")
    (more page (one ++ codes " ") (decimal c.args.need)
    (more page one (codes " ")
    (more page (codes "refused full ") (decimal c.args.end) c.in_ok-push_str.ensures.ok c.in_ok-push_number.ensures.ok)
    c.in_ok-push.ensures.ok)
    c.in_ok-push_number-2.ensures.ok) c.in_ok-push-2.ensures.ok))
    c.push_number-3.ensures.ok

pub returns-clause-kept : goal.returns-clause-kept
returns-clause-kept c =
    starts_with_trans c.push_number-3.new.page c.push-2.new.self c.args.page.now c.push_number-3.ensures.kept
    (grind (arith, kept))
