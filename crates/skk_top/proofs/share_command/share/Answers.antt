use Rattle.std.proofs.Common.{◌≡◌, ◌∙◌, ◌++◌, ap, refl, subst, encode_utf8_all, ℕ, List}
use Rattle.skk_outside.specs.Moved.{moved_sink}
use Rattle.run_endings.specs.Page.{LeavesPrinted}
use Rattle.skk_top.specs.ShareCommand.{list_line}
use Rattle.skk_top.proofs.Runs.{Keeps-self}
use Rattle.skk_top.proofs.Shares.{list-refused, list-told, list-unmade}
use Rattle.skk_top.proofs.share_command.share.Goals as goal

pub returns-in_err-push_list : goal.returns-in_err-push_list
returns-in_err-push_list g c =
    list-unmade c.args.sharing.typist c.args.sharing.books c.from_residual.result (g.C.Caller.said c.args.caller.now)
    (moved_sink g.O.Outside c.args.out.now c.args.out.now) c.from_residual.ensures.1 (Keeps-self _) refl

pub returns-in-Done : goal.returns-in-Done
returns-in-Done g c =
    let typist = c.args.sharing.typist in
    let books = c.args.sharing.books in
    let out = moved_sink g.O.Outside c.args.out.now c.print_text.new.out in
    let line : c.push_list.new.page ≡ list_line typist books =
    c.in_ok-push_list.ensures ∙ ap (λ text. text ++ list_line typist books) c.new-line.ensures in
    list-told typist books c.in-Done.field-0 c.print_text.result (g.C.Caller.said c.args.caller.now)
    (g.C.Caller.said c.call.new.self) out c.in-Done.ensures.said
    (subst (λ (text : List ℕ). LeavesPrinted (encode_utf8_all text) c.print_text.result out) line c.print_text.ensures)

pub returns : goal.returns
returns g c =
    list-refused c.args.sharing.typist c.args.sharing.books c.in-Refused.field-0 (g.C.Caller.said c.args.caller.now)
    (g.C.Caller.said c.call.new.self) (moved_sink g.O.Outside c.args.out.now c.args.out.now)
    c.in-Refused.ensures.said refl refl
