use Rattle.dict_expr.proofs.GoodRows.{all_good}
use Rattle.dict_expr.proofs.printing.file_text.Goals as goal

-- rows that say something are good ones, since no line is too long
pub returns-clause-read_again : goal.returns-clause-read_again
returns-clause-read_again c says =
    let book = c.args.book.now in
    c.print_file.ensures.read_again
    (all_good book (c.printing_order_moves_rows.ensures.same_rows book) c.requires.valid says c.requires.fits)

pub returns-clause-entries : goal.returns-clause-entries
returns-clause-entries c says =
    let book = c.args.book.now in
    c.print_file.ensures.entries
    (all_good book (c.printing_order_moves_rows.ensures.same_rows book) c.requires.valid says c.requires.fits)
