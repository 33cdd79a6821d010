use Rattle.std.proofs.Common.{◌∙◌, ◌≤◌, [], ap, arith, length, sym}
use Rattle.std.specs.List.{fold}
use Rattle.std.proofs.lemmas.List.{take_all}
use Rattle.dict_format.specs.Views.{texts_seen}
use Rattle.skkserv_client.specs.Gathering.{with_reading}
use Rattle.skkserv_client.proofs.Gathered.{readings_added}
use Rattle.skkserv_client.proofs.Results.{if_ok}
use Rattle.skkserv_client.proofs.gathering.readings_of.Goals as goal

pub returns : goal.returns
returns c =
    let texts = c.args.texts.now in
    let i = c.loop-text.text-index in
    let all : length texts ≤ i = omega (arith, c.loop-text-test.false) in
    if_ok c.into_texts.result
    (λ readings is.
    is ∙ c.loop-text.invariant
    ∙ ap (λ ts. fold with_reading [] (texts_seen ts)) (take_all i texts all)
    ∙ sym (readings_added (texts_seen texts))) c.into_texts.ensures.value
