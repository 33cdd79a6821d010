use Rattle.std.proofs.Common.{◌≡◌, ◌∙◌, ◌+◌, Some, drop, find, map, sym, ap, arith}
use Rattle.std.specs.Option.{option_map}
use Rattle.std.proofs.Math.ListN.{drop_of_length-le}
use Rattle.skk_calls.specs.Dictionary.{line_length}
use Rattle.dict_expr.proofs.GoodRows.{long_row, short_row}
use Rattle.dict_expr.proofs.Steps.{ended, front, passed}
use Rattle.dict_expr.specs.Books.{is_too_big}
use Rattle.dict_expr.proofs.printing.too_big_among.Goals as goal

pub returns-then-bytes : goal.returns-then-bytes
returns-then-bytes c =
    let rows = c.args.rows.now in
    let row = c.row-item.result in
    let bytes = c.line_length-bytes.result in
    let place = c.loop-row.row-index in
    let told = c.line_length-bytes.ensures in
    let here : find is_too_big (map (λ r. r.now) rows) ≡ Some row.now =
    c.loop-row.invariant
    ∙ ap (λ rs. find is_too_big (map (λ r. r.now) rs)) (front rows place row (omega arith) c.row-item.is)
    ∙ ended is_too_big row.now (map (λ r. r.now) (drop (place + 1) rows)) (long_row row.now bytes told (omega arith)) in
    sym (ap (option_map line_length) here ∙ ap Some (sym told))

pub loop-row-preserved : goal.loop-row-preserved
loop-row-preserved c =
    let rows = c.args.rows.now in
    let row = c.row-item.result in
    let bytes = c.line_length-bytes.result in
    let place = c.loop-row.row-index in
    c.loop-row.invariant
    ∙ ap (λ rs. find is_too_big (map (λ r. r.now) rs)) (front rows place row (omega arith) c.row-item.is)
    ∙ passed is_too_big row.now (map (λ r. r.now) (drop (place + 1) rows))
    (short_row row.now bytes c.line_length-bytes.ensures (omega arith))

pub returns : goal.returns
returns c =
    sym (ap (option_map line_length)
    (c.loop-row.invariant
    ∙ ap (λ rs. find is_too_big (map (λ r. r.now) rs)) (drop_of_length-le c.args.rows.now (omega arith))))
