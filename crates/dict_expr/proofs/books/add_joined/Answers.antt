use Rattle.std.proofs.Common.{arith}
use Rattle.dict_expr.proofs.Paired.{part_at}
use Rattle.dict_expr.proofs.books.add_joined.Goals as goal

pub joined-requires : goal.joined-requires
joined-requires c =
    part_at c.args.pairs.now c.loop-row.row-index c.loop-row-item.result c.requires (omega arith) c.loop-row-item.is
