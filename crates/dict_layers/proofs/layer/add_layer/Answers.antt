use Rattle.std.proofs.Common.{◌∙◌, ◌++◌, ap, sym}
use Rattle.std.proofs.lemmas.Result.{on_ok_weaker}
use Rattle.skk_calls.specs.Found.{with_block_first, without_hidden}
use Rattle.std.specs.Option.{option_copied}
use Rattle.dict_layers.proofs.BlockFirst.{none_hidden}
use Rattle.dict_layers.proofs.layer.add_layer.Goals as goal

pub returns-in-None-clause-shown : goal.returns-in-None-clause-shown
returns-in-None-clause-shown c =
    let cands = c.args.cands.now in
    let passed = c.args.passed.now in
    let row = c.args.row.now in
    on_ok_weaker c.add_others.result
    (λ added.
    added
    ∙ ap (λ first. cands ++ without_hidden passed (without_hidden first c.as_slice.result.now)) c.new-first.ensures
    ∙ ap (λ kept. cands ++ without_hidden passed kept)
    (none_hidden c.as_slice.result.now ∙ c.as_slice.ensures ∙ c.cands.ensures.value)
    ∙ ap (λ block. cands ++ without_hidden passed (with_block_first row (option_copied block))) (sym c.in-None.is))
    c.add_others.ensures
