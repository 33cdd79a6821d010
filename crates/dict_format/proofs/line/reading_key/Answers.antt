use Rattle.std.proofs.Common.{sym}
use Rattle.std.specs.Str.{chars}
use Rattle.dict_format.proofs.LineTexts.{before_space}
use Rattle.dict_format.proofs.line.reading_key.Goals as goal

pub key_of-requires : goal.key_of-requires
key_of-requires c = before_space (chars c.args.line.now) _ _ (sym c.in-Some.ensures)
