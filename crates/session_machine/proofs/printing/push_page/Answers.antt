use Rattle.std.proofs.Common.{◌+◌, ◌-◌, ◌++◌, codes, drop, length, arith}
use Rattle.std.specs.Fmt.{decimal}
use Rattle.std.specs.Str.{chars}
use Rattle.std.proofs.Transfers.{starts_with_trans}
use Rattle.std.proofs.lemmas.Result.{on_ok_weaker}
use Rattle.candidate_state.specs.Picking.{page_size}
use Rattle.session_machine.specs.Display.{lettered, page_letters}
use Rattle.session_machine.proofs.Forms.{kept, kept-put, more}
use Rattle.session_machine.proofs.printing.push_page.Goals as goal

pub returns-clause-ok : goal.returns-clause-ok
unfolding chars
returns-clause-ok c =
    let page = c.args.page.now in
    let picking = c.args.picking.now in
    let cands = lettered page_letters (drop picking.place picking.shown) in
    let left = decimal (length picking.shown - (picking.place + page_size)) in
    let one = codes "▼[" ++ cands in
    let two = one ++ codes "残り " in
    on_ok_weaker c.push.result
    (more page (two ++ left) (codes "]")
    (more page two left
    (more page one (codes "残り ")
    (more page (codes "▼[") cands c.in_ok-push_str.ensures.ok
    (rw (← c.place.ensures.value, ← c.shown_list.ensures.value) c.in_ok-push_lettered.ensures.ok))
    c.in_ok-push_str-2.ensures.ok) c.in_ok-push_count_behind.ensures.ok))
    c.push.ensures.ok

pub returns-clause-kept : goal.returns-clause-kept
returns-clause-kept c =
    let before = c.push_count_behind.new.page in
    starts_with_trans c.push.new.self before c.args.page.now
    (kept-put c.push.result before _ c.push.new.self c.push.ensures.ok c.push.ensures.err)
    (grind (arith, kept))
