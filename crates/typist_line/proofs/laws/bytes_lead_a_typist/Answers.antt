use Rattle.typist_line.proofs.Standing.{stands-converses, closed-where}
use Rattle.typist_line.proofs.laws.bytes_lead_a_typist.Goals as goal

pub returns-clause-talk : goal.returns-clause-talk
returns-clause-talk c rules bytes talk typist begun stands = stands-converses rules bytes begun talk typist stands

pub returns-clause-over : goal.returns-clause-over
returns-clause-over c rules bytes talk typist begun stands = closed-where rules bytes begun talk typist stands
