use Rattle.std.proofs.Common.{subst, List, ℕ, encode_utf8_all}
use Rattle.skk_outside.specs.Moved.{moved_sink}
use Rattle.run_endings.specs.Page.{LeavesPrinted}
use Rattle.skk_top.proofs.dump_command.print_book.Goals as goal

pub returns : goal.returns
returns g c =
    subst (λ (text : List ℕ). LeavesPrinted (encode_utf8_all text) c.print_text.result
    (moved_sink g.O.Outside c.args.out.now c.print_text.new.out)) c.in_ok-text.ensures c.print_text.ensures
