use Rattle.std.proofs.Common.{sym}
use Rattle.std.specs.Str.{chars}
use Rattle.dict_format.proofs.LineTexts.{before_space}
use Rattle.dict_format.proofs.line.read_cut.Goals as goal

pub read_parts-requires : goal.read_parts-requires
read_parts-requires c = before_space (chars c.args.line.now) _ _ (sym c.in-Some.ensures)
