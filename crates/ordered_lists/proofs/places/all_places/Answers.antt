use Rattle.std.proofs.Common.{◌∙◌, ◌++◌, ◌∷◌, [], ap, sym, map, slice_get}
use Rattle.std.proofs.lemmas.List.{map-append}
use Rattle.ordered_lists.proofs.Indexes.{place_more}
use Rattle.ordered_lists.proofs.places.all_places.Goals as goal

pub loop-place-preserved : goal.loop-place-preserved
loop-place-preserved g c =
    let items = c.args.items.now in
    let place = c.loop-place.place in
    ap (map (slice_get items)) c.in_ok-push.ensures.ok
    ∙ map-append (slice_get items) c.loop-place.places (place ∷ [])
    ∙ ap (λ found. found ++ slice_get items place ∷ []) c.loop-place.invariant
    ∙ sym (place_more items place c.loop-place-test.true)
