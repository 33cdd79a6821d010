use Rattle.learned_store.specs.Stores.{opening_now}
use Rattle.desk_tests.proofs.sharing.share.Given as goal

-- the desk is opened over the store as it was just opened, with the history that was just made
abbrev pub ghosts-share_named-N-OpeningName : goal.ghosts-share_named-N-OpeningName
ghosts-share_named-N-OpeningName g a = record { opening = opening_now g.D.Disk a.store }

abbrev pub ghosts-share_named-N-LearnedName : goal.ghosts-share_named-N-LearnedName
ghosts-share_named-N-LearnedName g a = record { past = g.D.Disk.left_since a.store.journal.disk }

abbrev pub ghosts-share_named-N-DeskName : goal.ghosts-share_named-N-DeskName
ghosts-share_named-N-DeskName g a = record { table = a.made.0 }
