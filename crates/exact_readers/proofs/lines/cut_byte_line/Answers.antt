use Rattle.std.proofs.Common.{◌≡◌, Some, None, refl, arith}
use Rattle.std.specs.List.{position}
use Rattle.std.proofs.lemmas.Grind.{common_steps}
use Rattle.exact_readers.specs.CutLaws.{cut-position}
use Rattle.exact_readers.specs.Lines.{is_line_feed}
use Rattle.exact_readers.proofs.lines.cut_byte_line.Goals as goal

pub returns-in-Some : goal.returns-in-Some
returns-in-Some c =
    let bytes = c.args.bytes.now in
    let at : position is_line_feed bytes ≡ Some c.in-Some.end = cc in
    rw (cut-position is_line_feed bytes, at) (grind (arith, common_steps))

pub returns-in-None : goal.returns-in-None
returns-in-None c =
    let bytes = c.args.bytes.now in
    let none : position is_line_feed bytes ≡ None = cc in
    rw (cut-position is_line_feed bytes, none) refl
