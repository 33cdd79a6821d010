use Rattle.std.proofs.Common.{◌∙◌, ap, arith, not}
use Rattle.std.specs.List.{list_all}
use Rattle.skk_calls.specs.Rows.{Row}
use Rattle.ordered_lists.specs.Orders.{ascend}
use Rattle.learn_index.specs.Ages.{age, age_keys, same_age}
use Rattle.learn_index.proofs.ByStamp.{left_ascends}
use Rattle.learn_index.proofs.by_stamp.exchanged.Goals as goal

pub with_aged-requires-clause-ascend : goal.with_aged-requires-clause-ascend
with_aged-requires-clause-ascend c =
    ap (ascend age age_keys) c.without_aged.ensures.items
    ∙ left_ascends c.args.before c.args.stamps.items c.requires.ascend

pub with_aged-requires-clause-room : goal.with_aged-requires-clause-room
with_aged-requires-clause-room c = omega (arith, c.without_aged.ensures.room, c.requires.room)

pub with_aged-requires-clause-new : goal.with_aged-requires-clause-new
with_aged-requires-clause-new c =
    ap (list_all (λ (other : Row). not (same_age (age other) (age c.in-Some.row)))) c.without_aged.ensures.items
    ∙ c.requires.new c.in-Some.row c.in-Some.is
