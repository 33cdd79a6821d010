use Rattle.learned_store.specs.Stores.{opening_now}
use Rattle.skk_top.proofs.serve_command.serve_store.Given as goal

-- connections are served over the store as it was just opened, with the history that was just made
abbrev pub ghosts-serve_over-N-DeskName : goal.ghosts-serve_over-N-DeskName
ghosts-serve_over-N-DeskName g a = record { table = a.made.0 }

abbrev pub ghosts-serve_over-N-OpeningName : goal.ghosts-serve_over-N-OpeningName
ghosts-serve_over-N-OpeningName g a = record { opening = opening_now g.D.Disk a.store }

abbrev pub ghosts-serve_over-N-LearnedName : goal.ghosts-serve_over-N-LearnedName
ghosts-serve_over-N-LearnedName g a = record { past = g.D.Disk.left_since a.store.journal.disk }
