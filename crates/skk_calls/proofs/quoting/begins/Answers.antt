use Rattle.std.proofs.Common.{◌∙◌, nat_eq, sym, ap}
use Rattle.std.specs.List.{starts_with}
use Rattle.std.specs.Str.{chars}
use Rattle.std.proofs.lemmas.Str.{encodes-chars}
use Rattle.skk_calls.proofs.Beginnings.{begins_bytes}
use Rattle.skk_calls.proofs.quoting.begins.Goals as goal

pub returns : goal.returns
returns c =
    let word = c.args.word.now in
    c.starts_with.ensures.value
    ∙ ap (λ bytes. starts_with nat_eq bytes c.args.prefix.now)
    (c.as_bytes.ensures.value ∙ sym (encodes-chars word c.utf8.word))
    ∙ begins_bytes c.args.prefix.now (chars word) c.requires
