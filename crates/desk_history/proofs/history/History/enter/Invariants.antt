use Rattle.desk_history.proofs.history.History.enter.Given as goal

-- the entry of the call is made
abbrev pub ghosts-enter_first : goal.ghosts-enter_first
ghosts-enter_first a = record { entry = record { number = a.number; call = a.call.now; answer = a.answer.now } }
