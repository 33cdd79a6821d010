use Rattle.run_endings.proofs.finish.end_by.Goals as goal

-- no want of memory leaves the tally
pub returns : goal.returns
returns c = c.end_wanting.ensures
