use Rattle.tally_laws.proofs.SameDialogs.{same-tally}
use Rattle.tally_laws.proofs.laws.callers_who_say_the_same_come_to_one_tally.Goals as goal

pub returns : goal.returns
returns c state typist_of history other same own apart served =
    same-tally state typist_of history other same own apart served
