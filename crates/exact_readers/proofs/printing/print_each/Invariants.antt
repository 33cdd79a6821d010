use Rattle.std.proofs.Common.{◌≡◌, ◌++◌, take}
use Rattle.std.specs.List.{flat_map}
use Rattle.exact_readers.proofs.printing.print_each.Given as goal

-- what was added is what is printed of the values so far
abbrev pub invariant-loop-value : goal.invariant-loop-value
invariant-loop-value g l =
    g.P.Printer.shown l.page
    ≡ g.P.Printer.shown l.fn.page ++ flat_map g.P.Printer.printed (take l.value-index l.values)
