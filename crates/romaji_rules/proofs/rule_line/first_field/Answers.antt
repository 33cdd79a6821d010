use Rattle.std.proofs.Common.{arith}
use Rattle.std.proofs.lemmas.Str.Pattern.{split_parts}
use Rattle.romaji_rules.proofs.CutLines.{first_is_field}
use Rattle.romaji_rules.proofs.rule_line.first_field.Goals as goal

pub returns : goal.returns
returns c =
    first_is_field c.args.text.now c.split_once.result
    (split_parts 9 c.args.text.now c.split_once.result c.split_once.ensures.cases (omega arith))
