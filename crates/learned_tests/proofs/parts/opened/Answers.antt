use Rattle.learned_tests.proofs.parts.opened.Goals as goal

pub returns : goal.returns
returns g c = c.in-Ok.ensures.keeps.3.calm
