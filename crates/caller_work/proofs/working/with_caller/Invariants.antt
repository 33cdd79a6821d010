use Rattle.learned_store.specs.Stores.{opening_now}
use Rattle.caller_work.proofs.working.with_caller.Given as goal

-- the store is named as it was just opened
abbrev pub ghosts-with_name-N-OpeningName : goal.ghosts-with_name-N-OpeningName
ghosts-with_name-N-OpeningName g a = record { opening = opening_now g.D.Disk a.store }

abbrev pub ghosts-with_name-N-LearnedName : goal.ghosts-with_name-N-LearnedName
ghosts-with_name-N-LearnedName g a = record { past = g.D.Disk.left_since a.store.journal.disk }
