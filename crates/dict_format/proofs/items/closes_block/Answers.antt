use Rattle.std.proofs.Common.{◌∙◌, ◌∷◌, [], codes, ap, sym}
use Rattle.std.specs.Str.{bytes_eq, chars}
use Rattle.std.proofs.lemmas.Str.{encodes-chars}
use Rattle.skk_calls.specs.KeyLaws.{same_encoded}
use Rattle.dict_format.proofs.items.closes_block.Goals as goal

pub returns : goal.returns
unfolding lib.Utf8.encode
returns c =
    let text = c.args.text.now in
    c.eq.ensures ∙ ap (λ bytes. bytes_eq bytes (0x5D ∷ [])) (sym (encodes-chars text c.utf8.text))
    ∙ same_encoded (chars text) (codes "]")
