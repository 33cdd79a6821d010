use Rattle.std.proofs.lemmas.Str.{encodes-chars}
use Rattle.command_line.proofs.word.Word.of_str.Goals as goal

pub returns-clause-bytes : goal.returns-clause-bytes
returns-clause-bytes c = encodes-chars c.args.text.now c.utf8.text
