use Rattle.std.proofs.Common.{◌==◌, ◌∙◌, ap}
use Rattle.skk_text.specs.TextLaws.{byte_len-empty}
use Rattle.skk_text.proofs.text.Text.is_empty.Goals as goal

pub returns : goal.returns
returns c = ap (λ n. n == 0) c.byte_len.ensures ∙ byte_len-empty c.args.self.now
