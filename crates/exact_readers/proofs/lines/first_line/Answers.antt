use Rattle.std.proofs.Common.{◌<◌, length, sym, arith}
use Rattle.exact_readers.specs.LineLaws.{first_cut, last_cut}
use Rattle.exact_readers.proofs.lines.first_line.Goals as goal

pub returns-in-Some : goal.returns-in-Some
returns-in-Some c = first_cut c.args.text.now c.in-Some.line.now c.in-Some.behind.now (sym c.in-Some.ensures)

pub returns-in-None : goal.returns-in-None
returns-in-None c =
    let some : 0 < length c.args.text.now = grind arith in
    last_cut c.args.text.now (sym c.in-None.ensures) some
