use Rattle.std.proofs.Common.{◌≡◌, [], false, length, get_or, fold}
use Rattle.std.specs.List.{filter}
use Rattle.skk_calls.specs.Completions.{completion_limit, goes_on_from}
use Rattle.skk_calls.specs.Orders.{text_less}
use Rattle.dict_complete.specs.Joined.{with_more}
use Rattle.dict_complete.proofs.completing.add_file.Given as goal

-- the walk has come to the prefix or behind it, and what goes on from the prefix behind that is still to be added
abbrev pub invariant-loop-alloc : goal.invariant-loop-alloc
invariant-loop-alloc g l =
    let texts = get_or (g.W.Walk.files l.system) l.file [] in
    record {
      reached : text_less l.low l.prefix ≡ false;
      left :
          fold (with_more completion_limit) l.readings (filter (goes_on_from l.prefix) (filter (text_less l.low) texts))
          ≡ fold (with_more completion_limit) l.fn.readings (filter (goes_on_from l.prefix) texts);
    }

-- how many readings are behind that
abbrev pub decreases-loop-alloc : goal.decreases-loop-alloc
decreases-loop-alloc g l = length (filter (text_less l.low) (get_or (g.W.Walk.files l.system) l.file []))
