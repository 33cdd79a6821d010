use Rattle.std.proofs.Common.{◌∙◌, ap}
use Rattle.skk_calls.specs.Rows.{keys_differ}
use Rattle.learn_index.proofs.Books.{ascending_differ}
use Rattle.learn_index.proofs.index.Index.book.Goals as goal

pub new-requires : goal.new-requires
new-requires c =
    ap keys_differ c.in_ok-copied_rows.ensures ∙ ascending_differ c.rows_of.result.now c.rows_of.ensures.ascend
