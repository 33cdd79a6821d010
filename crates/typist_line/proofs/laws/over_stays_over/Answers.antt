use Rattle.typist_line.proofs.Standing.{over-stays}
use Rattle.typist_line.proofs.laws.over_stays_over.Goals as goal

pub returns : goal.returns
returns c rules bytes more talk begun later over = over-stays rules bytes more talk over
