use Rattle.std.proofs.Common.{◌≡◌, ◌==◌, ◌++◌, map, not, take}
use Rattle.std.specs.List.{filter, filter_map}
use Rattle.skk_calls.specs.States.{row_at}
use Rattle.learn_index.proofs.layering.add_listed_rows.Given as goal

-- the rows of the books so far are added
abbrev pub invariant-loop-number : goal.invariant-loop-number
invariant-loop-number l =
    map (λ row. row.now) l.rows ≡ map (λ row. row.now) l.fn.rows
    ++ filter_map (λ number. row_at l.index.state number l.key)
    (filter (λ number. not (number == l.who)) (take l.number-index l.number-items))
