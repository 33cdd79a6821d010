-- The sessions of a script: a map by number.
use Rattle.std.specs.Prelude.{ℕ, Option, List, unwrap_or}
use Rattle.std.specs.BTreeMap.{insert_entry, is_at}
use Rattle.std.specs.Map.{lookup}
use Rattle.std.specs.Ordering.{nat_cmp}
use Rattle.session_machine.specs.Session.{Session, new_session}

-- sessions, each with its number, ascending by number
abbrev pub SessionMap : Type 0
SessionMap = List (ℕ × Session)

-- the session of a number, where it is there
abbrev pub session_at : SessionMap → ℕ → Option Session
session_at sessions number = lookup (is_at (nat_cmp number)) sessions

-- the session of a number, which is a new one where it is not there: its number is its typist and its book
abbrev pub session_or_new : SessionMap → ℕ → Session
session_or_new sessions number = unwrap_or (session_at sessions number) (new_session number number)

-- the sessions with this one in the place of its number
abbrev pub with_session : SessionMap → ℕ → Session → SessionMap
with_session sessions number session = insert_entry nat_cmp sessions number session
