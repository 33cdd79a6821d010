use Rattle.std.proofs.Common.{◌≡◌, ◌==◌, ◌∷◌, map, not, take}
use Rattle.std.specs.List.{filter}
use Rattle.skk_calls.specs.Completions.{completion_limit, newest_readings}
use Rattle.skk_calls.specs.States.{rows_of}
use Rattle.learn_index.proofs.completing.readings_of_books.Given as goal

-- the readings so far are those of the typist's own book and of the other books so far
abbrev pub invariant-loop-number : goal.invariant-loop-number
invariant-loop-number l =
    l.lists
    ≡ map (λ number. take completion_limit (newest_readings l.prefix (rows_of l.index.state number)))
    (l.who ∷ filter (λ number. not (number == l.who)) (take l.number-index l.number-items))
