use Rattle.learned_store.specs.Stores.{opening_now}
use Rattle.protocol_tests.proofs.passes.told_in_turn.Given as goal

-- the desk is opened over the store as it was just opened, with the history that was just made
abbrev pub ghosts-told_over-N-OpeningName : goal.ghosts-told_over-N-OpeningName
ghosts-told_over-N-OpeningName g a = record { opening = opening_now g.D.Disk a.store }

abbrev pub ghosts-told_over-N-LearnedName : goal.ghosts-told_over-N-LearnedName
ghosts-told_over-N-LearnedName g a = record { past = g.D.Disk.left_since a.store.journal.disk }

abbrev pub ghosts-told_over-N-DeskName : goal.ghosts-told_over-N-DeskName
ghosts-told_over-N-DeskName g a = record { table = a.made.0 }
