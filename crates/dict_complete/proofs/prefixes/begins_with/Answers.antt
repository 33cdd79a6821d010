use Rattle.std.proofs.Common.{◌∙◌, ap, nat_eq}
use Rattle.std.specs.List.{starts_with}
use Rattle.dict_complete.specs.PrefixLaws.{begins_encoded}
use Rattle.dict_complete.proofs.prefixes.begins_with.Goals as goal

pub returns : goal.returns
returns c =
    c.starts_with.ensures.value
    ∙ ap (λ bytes. starts_with nat_eq bytes c.as_bytes.result.now)
    (c.as_bytes-bytes.ensures.value ∙ c.as_str.ensures.value)
    ∙ ap (starts_with nat_eq _) (c.as_bytes.ensures.value ∙ c.as_str-2.ensures.value)
    ∙ begins_encoded c.args.text.now c.args.prefix.now
