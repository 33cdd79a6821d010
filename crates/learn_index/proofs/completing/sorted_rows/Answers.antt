use Rattle.std.proofs.Common.{◌∙◌, ap}
use Rattle.skk_text.specs.Pairs.{all_pairs}
use Rattle.ordered_lists.specs.OrderLaws.{apart}
use Rattle.skk_calls.specs.Orders.{is_newer}
use Rattle.learn_index.proofs.NewestFirst.{completing_apart}
use Rattle.learn_index.proofs.completing.sorted_rows.Goals as goal

pub sort_newest-requires : goal.sort_newest-requires
sort_newest-requires c =
    ap (all_pairs (apart is_newer)) c.in_ok-completing.ensures
    ∙ completing_apart c.args.prefix.now c.args.rows.now c.requires.ascend
