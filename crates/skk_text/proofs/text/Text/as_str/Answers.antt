use Rattle.std.proofs.Common.{◌∙◌, sym, ap, encode_utf8_all}
use Rattle.std.specs.Str.{chars}
use Rattle.std.proofs.lemmas.Str.{encodes-chars}
use Rattle.skk_text.proofs.text.Text.as_str.Goals as goal

-- the bytes are those that the characters are encoded as
pub returns-clause-value : goal.returns-clause-value
returns-clause-value c =
    sym (encodes-chars c.as_str.result.now c.as_str.utf8)
    ∙ ap encode_utf8_all (ap chars c.as_str.ensures ∙ c.self.view_is)

pub returns-clause-characters : goal.returns-clause-characters
returns-clause-characters c = ap chars c.as_str.ensures ∙ c.self.view_is
