use Rattle.std.proofs.Common.{◌∙◌, find, ap, sym, rules}
use Rattle.std.specs.Option.{option_copied}
use Rattle.std.proofs.lemmas.Iterator.{YieldsList-from_slice}
use Rattle.std.proofs.lemmas.Iterator.Search.{find_from_yields_List}
use Rattle.skk_calls.specs.Rows.{Block, same_text}
use Rattle.dict_layers.specs.Blocks.{block_for}
use Rattle.dict_layers.proofs.ordering.block_for.Goals as goal
use borrow.Author.Tests.{tests}

pub returns : goal.returns
returns c =
    let okuri = c.in_ok-okuri.okuri.now in
    let same = λ (block : Block). same_text block.okuri okuri in
    find_from_yields_List same _ _ c.find.result c.find.ensures.ran (YieldsList-from_slice c.as_slice.result.now cc)
    (λ x b q k. search (rules, tests))
    ∙ ap (find same) (c.as_slice.ensures ∙ c.blocks-2.ensures.value)
    ∙ ap (λ o. block_for (option_copied o) c.args.row.now.blocks) (sym c.in_ok-okuri.was)
