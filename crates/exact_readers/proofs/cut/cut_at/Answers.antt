use Rattle.exact_readers.specs.CharLaws.{cut-chars}
use Rattle.exact_readers.proofs.cut.cut_at.Goals as goal

pub returns : goal.returns
returns c = cut-chars c.args.end c.args.text.now c.utf8.text c.split_once.result c.split_once.ensures.cases
