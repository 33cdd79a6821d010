use Rattle.std.proofs.Common.{◌≤◌, ◌*◌, refl, codes, arith}
use Rattle.std.proofs.Math.Nat.{mul-le-mul}
use Rattle.skk_top.specs.LoadCommand.{number_line}
use Rattle.skk_top.proofs.Loads.{five-pushed, line-pushed}
use Rattle.run_endings.specs.PageLaws.{each_ok}
use Rattle.skk_top.proofs.PrintedTexts.{lines, learned, restored, rows, bytes}
use Rattle.skk_top.proofs.summary.push_summary.Goals as goal

-- the lines of a load are few
pub overflow_mul-lines : goal.overflow_mul-lines
overflow_mul-lines c =
    let few : c.args.options.now.sessions * c.args.options.now.lines ≤ 64 * 20000 =
    mul-le-mul c.requires.sessions c.requires.lines in
    omega (arith, few)

pub returns : goal.returns
returns c =
    let options = c.args.options.now in
    let tally = c.args.tally.now in
    let page = c.args.page.now in
    let first = c.push_number_line.new.page in
    let second = c.push_number_line-2.new.page in
    let third = c.push_number_line-3.new.page in
    let fourth = c.push_number_line-4.new.page in
    each_ok c.push_number_line-5.result c.push_number_line-5.ensures
    (λ e. five-pushed page first second third fourth c.push_number_line-5.new.page
    (number_line (codes "lines ") (options.sessions * options.lines)) (number_line (codes "learned ") tally.learned)
    (number_line (codes "restored ") tally.restored) (number_line (codes "rows ") tally.rows)
    (number_line (codes "bytes ") c.args.bytes)
    (line-pushed page first _ _ _ _ c.in_ok-push_number_line.ensures lines refl)
    (line-pushed first second _ _ _ _ c.in_ok-push_number_line-2.ensures learned c.learned.ensures)
    (line-pushed second third _ _ _ _ c.in_ok-push_number_line-3.ensures restored c.restored.ensures)
    (line-pushed third fourth _ _ _ _ c.in_ok-push_number_line-4.ensures rows c.rows.ensures)
    (line-pushed fourth c.push_number_line-5.new.page _ _ _ _ e bytes refl))
