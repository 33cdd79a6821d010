use Rattle.std.proofs.Common.{rules}
use Rattle.std.proofs.lemmas.Fn.{always_returns_same}
use Rattle.dict_files.proofs.InOrder.{part-sorted, place_less, place_order}
use Rattle.dict_files.proofs.sorting.sort_places.Goals as goal

pub returns : goal.returns
returns c part are =
    let bytes = c.args.bytes.now in
    let less = place_less bytes in
    part-sorted bytes part c.args.places.now.items c.sort_by.new.self.items c.sort_by.ensures.permutation
    (c.in_ok-sort_by.ensures.sorted less (place_order bytes) (always_returns_same _ _ _ (λ a r q k. search rules)))
    (c.sort_by.ensures.stable less (place_order bytes) (always_returns_same _ _ _ (λ a r q k. search rules))) are
