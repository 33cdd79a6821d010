use Rattle.exact_readers.specs.CharLaws.{past-chars}
use Rattle.exact_readers.proofs.cut.past_char.Goals as goal

pub returns : goal.returns
returns c = past-chars c.args.c c.args.text.now c.utf8.text c.strip_prefix.result c.strip_prefix.ensures.cases
