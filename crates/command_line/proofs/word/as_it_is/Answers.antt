use Rattle.std.proofs.Common.{sym}
use Rattle.std.proofs.lemmas.Str.{encodes-chars}
use Rattle.command_line.proofs.word.as_it_is.Goals as goal

pub returns : goal.returns
returns c = sym (encodes-chars c.args.text.now c.utf8.text)
