use Rattle.command_line.proofs.ExprWords.{tested-name}
use Rattle.command_line.proofs.expr_words.names_file.Goals as goal

pub returns-then-is_name : goal.returns-then-is_name
returns-then-is_name c =
    tested-name c.as_str.result.now c.args.word.now c.is_name.result c.ne.result c.as_str.utf8 c.as_str.ensures
    c.is_name.ensures c.if-is_name.true c.ne.ensures
