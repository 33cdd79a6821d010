use Rattle.skk_top.specs.LoadCommand.{load_lines}
use Rattle.skk_top.proofs.LoadInput.{drawn-give_keys, drawn-numbered}
use Rattle.skk_top.proofs.laws.typists_of_a_load_are_apart.Goals as goal

-- they are lines of sessions from 1 on, that open none
pub returns : goal.returns
returns c options state none =
    c.sessions_of_their_own_are_apart.ensures.apart state (load_lines options) none (drawn-give_keys options)
    (drawn-numbered options)
