use Rattle.session_machine.proofs.asking.replay.Given as goal

-- the answers that are given are those that the function got
abbrev pub ghosts-replay_over : goal.ghosts-replay_over
ghosts-replay_over a = record { answers = a.answers.now }
