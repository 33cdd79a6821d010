use Rattle.std.proofs.Common.{◌∙◌, ap, List}
use Rattle.std.specs.Map.{lookup}
use Rattle.std.specs.Ordering.{eq_by_cmp}
use Rattle.skk_calls.specs.Rows.{Row}
use Rattle.learned_store.specs.declared.row_place.RowPlace.{RowPlace}
use Rattle.learned_store.specs.RowPlaces.{place_cmp}
use Rattle.learned_store.proofs.Placed.{sorted_apart, sorted_found}
use Rattle.learned_store.proofs.gathered.in_order.Goals as goal

pub returns-clause-apart : goal.returns-clause-apart
returns-clause-apart c =
    sorted_apart _ _ c.sort_unstable_by.ensures.permutation c.in_ok-placed.ensures.apart

pub returns-clause-rows : goal.returns-clause-rows
returns-clause-rows c place =
    sorted_found _ _ c.sort_unstable_by.ensures.permutation c.in_ok-placed.ensures.apart place
    ∙ ap (λ (entries : List (RowPlace × Row)). lookup (eq_by_cmp place_cmp place) entries) c.in_ok-placed.ensures.rows
