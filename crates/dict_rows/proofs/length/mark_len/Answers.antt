use Rattle.std.proofs.Common.{◌≡◌, ◌∙◌, ◌==◌, length, sym, ap, arith}
use Rattle.std.proofs.lemmas.Bool.{both_ways}
use Rattle.dict_rows.proofs.LineLengths.{mark_some}
use Rattle.dict_rows.proofs.length.mark_len.Goals as goal

pub returns : goal.returns
returns c =
    let hides = c.args.hides.now in
    let some = λ (none : length hides ≡ 0). both_ways (length hides == 0) (sym c.is_empty.ensures ∙ c.if-is_empty.false)
    (ap (λ l. l == 0) none) in
    omega (arith, mark_some hides some, c.strings_len.ensures, c.len.ensures, c.saturating_add.ensures)
