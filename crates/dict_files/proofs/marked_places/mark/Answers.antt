use Rattle.std.proofs.Common.{◌∙◌, ap, encode_utf8_all}
use Rattle.std.specs.Str.{chars}
use Rattle.std.proofs.lemmas.Result.{IfOk-weaker}
use Rattle.std.proofs.lemmas.Str.{encodes-chars}
use Rattle.dict_files.specs.FilePlaces.{reading_at}
use Rattle.dict_files.proofs.marked_places.mark.Goals as goal

pub returns : goal.returns
returns c =
    IfOk-weaker c.from_str.result _ _
    (λ mark is.
    ap encode_utf8_all (is ∙ ap chars (c.in-Ok.ensures.0 ∙ c.reading_at.ensures))
    ∙ encodes-chars (reading_at c.args.bytes.now c.args.place.now) c.requires)
    c.from_str.ensures
