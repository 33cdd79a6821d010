-- What a key comes to.
use Rattle.skk_calls.specs.Interactions.{Interaction, ends}
use Rattle.session_machine.specs.Session.{Session}

-- what a key comes to: what it asks one after another, and the session after it
abbrev pub Meaning : Type 0
Meaning = Interaction Session

-- a key comes to a session, and asks no more
abbrev pub becomes : Session → Meaning
becomes session = ends session
