use Rattle.skk_top.proofs.load_command.PlayingWorkUnit.work.Goals as goal

-- lines are played from no session on
pub returns : goal.returns
returns g c = rw c.new-sessions.ensures.empty at c.play_lines-ended.ensures
