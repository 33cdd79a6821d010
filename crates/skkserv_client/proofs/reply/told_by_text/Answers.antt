use Rattle.std.proofs.Common.{◌≡◌, ◌∙◌, Some, ap, arith, sym}
use Rattle.std.specs.Option.{option_map}
use Rattle.std.specs.Str.{chars}
use Rattle.dict_format.specs.Reading.{texts_at}
use Rattle.dict_format.specs.Views.{texts_seen}
use Rattle.skkserv_client.proofs.Listed.{texts-fit}
use Rattle.skkserv_client.proofs.reply.told_by_text.Goals as goal

-- the texts are a part of the line
pub told_by_texts-requires-clause-short : goal.told_by_texts-requires-clause-short
told_by_texts-requires-clause-short c =
    let body = chars c.in-Some.body.now in
    let texts = texts_seen c.deref.result.now in
    let found : texts_at body ≡ Some texts =
    sym c.in_ok-texts.ensures ∙ ap (option_map (λ ts. texts_seen ts.items)) c.in-Some-2.is
    ∙ ap (λ items. Some (texts_seen items)) (sym c.deref.ensures.value) in
    texts-fit c.args.line.now body texts c.utf8.line (omega arith) c.in-Some.ensures
    (c.bodies_have_one_list_of_texts.ensures.body body texts found).0
