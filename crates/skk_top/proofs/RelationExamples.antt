-- Relations of what a run keeps and leaves, at small examples, each worked out by hand.
use Rattle.std.proofs.Common.{None, Some, Err, [], ◌∷◌, inl, inr, refl}
use Rattle.skk_outside.specs.Moved.{MovedShelf, MovedSink}
use Rattle.skk_top.specs.CheckCommand.{LeavesChecked}
use Rattle.run_endings.specs.Page.{Printed}
use Rattle.run_endings.specs.declared.fault.RunFault.TheVariants as faults
use Rattle.run_endings.specs.declared.finish.Run.{Run}
use Rattle.run_endings.specs.declared.run_file.Flaw.TheVariants.{TooLong}
use Rattle.run_endings.specs.declared.run_file.RunFile.{RunFile}
use Rattle.run_endings.specs.declared.run_file.RunFile.TheVariants.{Rules, Dictionary}

-- what was written stands before the page, and the page before the rest
printed : Printed (Some (1 ∷ [])) (Some (1 ∷ 2 ∷ [])) (3 ∷ []) (4 ∷ []) (2 ∷ 3 ∷ 4 ∷ [])
unfolding lib.Utf8.encode
printed = (2 ∷ [], refl, refl)

-- a shelf and a sink at which nothing happened
abbrev shelf : MovedShelf
shelf = record { file = λ name. None; faults = 3; faults' = 3 }

abbrev out : MovedSink
out = record { written = Some []; written' = Some []; faults = 3; faults' = 3 }

-- a run that refuses a file for its length, before it called or printed anything
abbrev refusing : RunFile → Run (Unit {0})
refusing file = record { ended = Err (faults.Refused file TooLong); chronicle = []; disk = tt }

-- the file of `check` is dictionary 1
checked_file : LeavesChecked [] (refusing (Dictionary 1)) shelf out
    × (¬ LeavesChecked [] (refusing (Dictionary 2)) shelf out) × (¬ LeavesChecked [] (refusing Rules) shelf out)
checked_file = (inl (record { cause = (refl, tt); uncalled = refl; unwritten = refl }), second, rules)
  where
    second : ¬ LeavesChecked [] (refusing (Dictionary 2)) shelf out
    second (inl ends) = cc (ends.cause.0)
    second (inr prints) = prints.printed.stopped

    rules : ¬ LeavesChecked [] (refusing Rules) shelf out
    rules (inl ends) = cc (ends.cause.0)
    rules (inr prints) = prints.printed.stopped
