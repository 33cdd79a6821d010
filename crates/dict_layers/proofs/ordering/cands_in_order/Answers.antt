use Rattle.std.proofs.Common.{◌∙◌, ◌++◌, ap, sym}
use Rattle.std.specs.Option.{option_copied}
use Rattle.skk_calls.specs.Found.{with_block_first, without_hidden}
use Rattle.dict_layers.proofs.BlockFirst.{none_hidden, ordered_by_block}
use Rattle.dict_layers.proofs.ordering.cands_in_order.Goals as goal

pub returns : goal.returns
returns c =
    let row = c.args.row.now in
    let block = option_copied c.block_for.result in
    c.in_ok-add_layer.ensures.shown
    ∙ ap (λ cands. cands ++ without_hidden c.new-passed.result (with_block_first row block)) c.new-cands.ensures
    ∙ ap (λ passed. without_hidden passed (with_block_first row block)) c.new-passed.ensures
    ∙ none_hidden (with_block_first row block)
    ∙ ap (with_block_first row) c.block_for.ensures
    ∙ sym (ordered_by_block row (option_copied c.args.okuri))
