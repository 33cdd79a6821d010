use Rattle.std.proofs.Common.{◌≡◌, get_or, reverse, subst, sym}
use Rattle.skk_calls.specs.Rows.{Row}
use Rattle.learn_index.proofs.Walks.{read_from_end}
use Rattle.learn_index.proofs.completing.from_end.Goals as goal

pub returns : goal.returns
returns c =
    let stamps = c.args.stamps.now in
    let step = c.args.step in
    let element = c.index-stamps-place.result in
    subst (λ (row : Row). row ≡ get_or (reverse stamps) step row) (sym c.row.ensures.value)
    (read_from_end stamps step element c.requires c.index-stamps-place.is)
