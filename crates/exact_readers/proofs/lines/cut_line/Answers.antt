use Rattle.std.proofs.Common.{arith}
use Rattle.std.proofs.lemmas.Str.Pattern.{split_parts}
use Rattle.exact_readers.specs.LineLaws.{cut-split}
use Rattle.exact_readers.proofs.lines.cut_line.Goals as goal

pub returns : goal.returns
returns c =
    cut-split 10 c.args.text.now c.split_once.result
    (split_parts 10 c.args.text.now c.split_once.result c.split_once.ensures.cases (omega arith))
