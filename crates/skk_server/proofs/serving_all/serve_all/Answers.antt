use Rattle.skk_server.proofs.serving_all.serve_all.Goals as goal
use Rattle.skk_server.proofs.Stages.{none-serves}

pub returns-in_default-clause-serves : goal.returns-in_default-clause-serves
returns-in_default-clause-serves g c =
    let none = c.none_served.ensures in none-serves none.none.0 none.none.1 none.none.2 none.done none.memory

pub returns-in-Err-clause-serves : goal.returns-in-Err-clause-serves
returns-in-Err-clause-serves g c =
    let none = c.none_served-in-Err.ensures in none-serves none.none.0 none.none.1 none.none.2 none.done none.memory
