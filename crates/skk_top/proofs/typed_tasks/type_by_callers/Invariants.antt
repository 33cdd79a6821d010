use Rattle.learned_store.specs.Stores.{opening_now}
use Rattle.skk_top.proofs.typed_tasks.type_by_callers.Given as goal

-- the tasks are typed over the store as it was just opened, with the history that was just made
abbrev pub ghosts-type_over-N-DeskName : goal.ghosts-type_over-N-DeskName
ghosts-type_over-N-DeskName g a = record { table = a.made.0 }

abbrev pub ghosts-type_over-N-OpeningName : goal.ghosts-type_over-N-OpeningName
ghosts-type_over-N-OpeningName g a = record { opening = opening_now g.D.Disk a.store }

abbrev pub ghosts-type_over-N-LearnedName : goal.ghosts-type_over-N-LearnedName
ghosts-type_over-N-LearnedName g a = record { past = g.D.Disk.left_since a.store.journal.disk }
