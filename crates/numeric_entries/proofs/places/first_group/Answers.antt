use Rattle.std.proofs.Common.{refl}
use Rattle.numeric_entries.proofs.Groups.{first_of_four}
use Rattle.numeric_entries.proofs.places.first_group.Goals as goal

pub returns-clause-group : goal.returns-clause-group
returns-clause-group c =
    rw (c.split_at.ensures.front, c.split_at.ensures.back) (first_of_four c.args.digits.now _ c.requires refl).0

pub returns-clause-behind : goal.returns-clause-behind
returns-clause-behind c = rw c.split_at.ensures.back (first_of_four c.args.digits.now _ c.requires refl).1
