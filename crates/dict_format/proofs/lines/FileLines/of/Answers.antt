use Rattle.dict_format.proofs.LineWalk.{none-read}
use Rattle.dict_format.proofs.lines.FileLines.of.Goals as goal

pub invariant_of-result : goal.invariant_of-result
invariant_of-result c = none-read c.args.text.now c.without_mark.result.now c.without_mark.ensures
