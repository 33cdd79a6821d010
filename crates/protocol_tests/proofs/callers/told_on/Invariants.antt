use Rattle.learned_store.specs.Stores.{opening_now}
use Rattle.protocol_tests.proofs.callers.told_on.Given as goal

-- all is tried over the store as it was just opened
abbrev pub ghosts-told_over-N-OpeningName : goal.ghosts-told_over-N-OpeningName
ghosts-told_over-N-OpeningName g a = record { opening = opening_now g.D.Disk a.store }

abbrev pub ghosts-told_over-N-LearnedName : goal.ghosts-told_over-N-LearnedName
ghosts-told_over-N-LearnedName g a = record { past = g.D.Disk.left_since a.store.journal.disk }
