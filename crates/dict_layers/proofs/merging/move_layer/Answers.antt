use Rattle.std.proofs.Common.{◌∙◌, ◌++◌, ap, sym}
use Rattle.std.specs.Option.{option_copied}
use Rattle.std.proofs.lemmas.Result.{on_ok_weaker}
use Rattle.skk_calls.specs.Found.{with_block_first, without_hidden}
use Rattle.dict_layers.proofs.BlockFirst.{by_block}
use Rattle.dict_layers.proofs.merging.move_layer.Goals as goal

pub returns-in-Some-clause-shown : goal.returns-in-Some-clause-shown
returns-in-Some-clause-shown c =
    let row = c.args.row in
    let passed = c.args.passed.now in
    on_ok_weaker c.add_block_first.result
    (λ added.
    added ∙ ap (λ block. c.args.cands.now ++ without_hidden passed (with_block_first row (option_copied block)))
    (sym c.in-Some.is)
    ∙ ap (λ kept. c.args.cands.now ++ without_hidden passed kept)
    (by_block row (option_copied c.args.okuri) (option_copied c.block_for.result) c.block_for.ensures))
    c.add_block_first.ensures.shown

pub returns-in-None-clause-shown : goal.returns-in-None-clause-shown
returns-in-None-clause-shown c =
    let row = c.args.row in
    let passed = c.args.passed.now in
    on_ok_weaker c.move_cands.result
    (λ moved.
    moved ∙ ap (λ kept. c.args.cands.now ++ without_hidden passed kept)
    (c.into_cands.ensures.value ∙ ap (λ block. with_block_first row (option_copied block)) (sym c.in-None.is)
    ∙ by_block row (option_copied c.args.okuri) (option_copied c.block_for.result) c.block_for.ensures))
    c.move_cands.ensures
