use Rattle.std.proofs.Common.{◌≤◌, sym, subst, inr, ℕ, List, encode_utf8_all}
use Rattle.skk_outside.specs.Moved.{moved_sink}
use Rattle.skk_text.specs.Text.{byte_len}
use Rattle.dict_format.specs.FileLines.{Lists, TakeAll, entries_of, file_limit, none_listed}
use Rattle.run_endings.specs.Page.{LeavesPrinted}
use Rattle.run_endings.specs.declared.finish.Run.{Run}
use Rattle.skk_top.specs.ExprCommand.{LeavesRows, listed_again}
use Rattle.skk_top.proofs.expr_command.print_rows.Goals as goal

-- the text is the one that is defined
pub returns-in-Ok-clause-leaves : goal.returns-in-Ok-clause-leaves
returns-in-Ok-clause-leaves g c =
    let rows = c.args.book.now in
    let made = c.in-Ok.ensures in
    let out = moved_sink g.O.Outside c.args.out.now c.print_text.new.out in
    subst (λ (r : Run g.row.D.Denot). LeavesRows rows r out) (sym c.without_calls.ensures) (inr (record {
      fits = made.fits;
      entries = subst (λ (text : List ℕ). TakeAll none_listed (entries_of (encode_utf8_all text)) (listed_again rows))
          made.printed (made.entries c.requires);
      read_again = subst
          (λ (text : List ℕ). byte_len text ≤ file_limit → Lists (encode_utf8_all text) (listed_again rows))
          made.printed (made.read_again c.requires);
      printed = subst (λ (text : List ℕ). LeavesPrinted (encode_utf8_all text) c.print_text.result out) made.printed
          c.print_text.ensures;
    }))
