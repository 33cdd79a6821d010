use Rattle.std.proofs.Common.{◌≡◌, [], fold, take}
use Rattle.std.specs.List.{filter, flat_map}
use Rattle.skk_calls.specs.Completions.{completion_limit, goes_on_from}
use Rattle.dict_complete.specs.Joined.{readings_in, with_more}
use Rattle.dict_complete.proofs.completing.complete.Given as goal

-- the readings of the lists so far are added
abbrev pub invariant-loop-list : goal.invariant-loop-list
invariant-loop-list g l =
    l.readings ≡ fold (with_more completion_limit) [] (readings_in (take l.list-index l.lists))

-- and those of the files so far
abbrev pub invariant-loop-file : goal.invariant-loop-file
invariant-loop-file g l =
    l.readings
    ≡ fold (with_more completion_limit) (fold (with_more completion_limit) [] (readings_in l.lists))
    (flat_map (filter (goes_on_from l.prefix)) (take l.file (g.W.Walk.files l.system)))
