-- What a call on a session leaves: what its caller has said, by what the call gave.
use Rattle.std.specs.Prelude.{◌≡◌, ℕ, Result, Ok, Err, ◌++◌, IfOk, OnErr}
use Rattle.skk_text.specs.declared.memory.Memory.{Memory}
use Rattle.skk_calls.specs.Interactions.{Interaction, Dialog, Comes, Begins}
use Rattle.session_machine.specs.Meanings.{Meaning, becomes}
use Rattle.session_machine.specs.Session.{Session}

-- what contracts see of a caller: its number, and what it has said
pub record Spoken : Type 0 where
  pub number : ℕ
  pub said : Dialog

-- a caller by its meanings
abbrev pub spoken : {S : Type 0} → (S → ℕ) → (S → Dialog) → S → Spoken
spoken number said caller = record { number = number caller; said = said caller }

-- a caller has said what an interaction asks, and nothing else: all of it where it comes to its end, and the first
-- of it where memory is out; its number stays
pub record Says {S : Type 0} (interaction : Interaction S) (result : Result S Memory) (before after : Spoken) : Type 0
  where
    pub dialog : Dialog
    pub number : after.number ≡ before.number
    pub grows : after.said ≡ before.said ++ dialog
    pub ok : IfOk result (λ end. Comes interaction dialog end)
    pub memory : OnErr result (Begins interaction dialog)

-- a call that asks nothing gives what a meaning comes to, unless memory is out
abbrev pub Becomes : Meaning → Result Session Memory → Type 0
Becomes meaning result = IfOk result (λ session. meaning ≡ becomes session)

-- what a call comes to that changes a session where it stands: the session as it left it, unless memory is out
abbrev pub after : Result (Unit {0}) Memory → Session → Result Session Memory
after (Ok unit) session = Ok session
after (Err memory) session = Err memory
