-- Which sessions are a typist's own.
use Rattle.std.specs.Prelude.{◌≡◌, ℕ, Bool, true, ◌==◌, Option, None, Some}
use Rattle.std.specs.List.{list_all}
use Rattle.skk_calls.specs.Rows.{Learned}
use Rattle.session_machine.specs.declared.frame.Choice.{Choice}
use Rattle.session_machine.specs.Session.{Session}

-- what was learnt is of a typist's book, where anything was
abbrev pub is_own_learning : ℕ → Option Learned → Bool
is_own_learning typist None = true
is_own_learning typist (Some learned) = learned.book == typist

-- what was learnt of a choice is so, where there is one
abbrev pub is_own_choice : ℕ → Option Choice → Bool
is_own_choice typist None = true
is_own_choice typist (Some choice) = is_own_learning typist choice.learned

-- a session is a typist's own: it is of the typist, it learns in the typist's book, and so was learnt what its frames
-- keep of their last choices; nothing else of a frame keeps a learning
abbrev pub IsOwn : ℕ → Session → Type 0
IsOwn typist session =
    (session.typist ≡ typist) × (session.book ≡ typist)
    × (is_own_choice typist session.frame.last_choice ≡ true)
    × (list_all (λ frame. is_own_choice typist frame.last_choice) session.outer ≡ true)
