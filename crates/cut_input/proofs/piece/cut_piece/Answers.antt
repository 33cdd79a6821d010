use Rattle.std.proofs.Common.{◌≡◌, Some, None, refl, arith}
use Rattle.std.specs.List.{position}
use Rattle.std.proofs.lemmas.Grind.{common_steps}
use Rattle.exact_readers.specs.CutLaws.{cut-position}
use Rattle.cut_input.proofs.piece.cut_piece.Goals as goal

pub returns-in-Some : goal.returns-in-Some
returns-in-Some g c =
    let bytes = c.args.bytes.now in
    let at : position g.E.Ending.ends bytes ≡ Some c.in-Some.end = cc in
    rw (cut-position g.E.Ending.ends bytes, at) (grind (arith, common_steps))

pub returns-in-None : goal.returns-in-None
returns-in-None g c =
    let bytes = c.args.bytes.now in
    let none : position g.E.Ending.ends bytes ≡ None = cc in
    rw (cut-position g.E.Ending.ends bytes, none) refl
