-- Numbers on both sides of the ends of their ranges.
use Rattle.std.proofs.Common.{◌≡◌, ◌^◌, ◌-◌, ℕ, Some, None, List, [], ◌∷◌, codes, refl, arith}
use lib.Utf8.{encode}
use Rattle.command_line.specs.Ranges.{HasNumbersInRange}
use Rattle.command_line.specs.declared.command.Command.{Command}
use Rattle.command_line.specs.declared.command.Command.TheVariants.{Alone, Waiting}
use Rattle.command_line.specs.declared.command.AloneCommand.TheVariants as alone
use Rattle.command_line.specs.declared.command.Question.TheVariants.{Look}
use Rattle.command_line.specs.declared.command.WaitingCommand.TheVariants as waiting

-- commands with these numbers, and nothing else given
abbrev typing : ℕ → Command
typing limit =
    Alone (alone.TypeScript
    (record { dictionaries = record { items = [] }; rules = None; learned = None; limit = Some limit }))

abbrev serving : ℕ → ℕ → ℕ → Command
serving limit port connections =
    Waiting (waiting.Serve (record {
      learned = codes "L";
      dictionaries = record { items = [] };
      rules = None;
      limit = Some limit;
      port = port;
      connections = connections;
    }))

abbrev dumping : ℕ → Command
dumping book = Alone (alone.Dump (record { learned = codes "L"; book = book }))

abbrev sharing : ℕ → ℕ → Command
sharing typist limit =
    Alone (alone.Share (record { learned = codes "L"; typist = typist; books = 0 ∷ []; limit = Some limit }))

abbrev importing : ℕ → ℕ → Command
importing book limit =
    Alone (alone.Import (record { learned = codes "L"; file = codes "F"; book = book; limit = Some limit }))

abbrev asking : ℕ → List ℕ → Command
asking port reading = Waiting (waiting.Ask (record { port = port; question = Look reading }))

abbrev loading : ℕ → ℕ → ℕ → Command
loading seed sessions lines = Alone (alone.Load (record { seed = seed; sessions = sessions; lines = lines }))

-- the least and the greatest lie within
within :
    HasNumbersInRange (typing 64) × HasNumbersInRange (typing 268435456) × HasNumbersInRange (serving 64 1 1)
    × HasNumbersInRange (serving 268435456 65535 1000000) × HasNumbersInRange (dumping 65535)
    × HasNumbersInRange (loading 0 1 1) × HasNumbersInRange (loading (2 ^ 64 - 1) 64 20000)
    × HasNumbersInRange (sharing 65535 64) × HasNumbersInRange (sharing 0 268435456)
within = (
  (omega arith, omega arith),
  (omega arith, omega arith),
  ((omega arith, omega arith), (omega arith, omega arith), (omega arith, omega arith)),
  ((omega arith, omega arith), (omega arith, omega arith), (omega arith, omega arith)),
  omega arith,
  (omega arith, (omega arith, omega arith), (omega arith, omega arith)),
  (omega arith, (omega arith, omega arith), (omega arith, omega arith)),
  (omega arith, (omega arith, omega arith)),
  (omega arith, (omega arith, omega arith)),
)

-- those beside them do not
limit_outside : (HasNumbersInRange (typing 63) → ⊥) × (HasNumbersInRange (typing 268435457) → ⊥)
limit_outside = (λ h. omega (arith, h.0), λ h. omega (arith, h.1))

serving_outside :
    (HasNumbersInRange (serving 63 1 1) → ⊥) × (HasNumbersInRange (serving 268435457 1 1) → ⊥)
    × (HasNumbersInRange (serving 64 0 1) → ⊥)
    × (HasNumbersInRange (serving 64 65536 1) → ⊥) × (HasNumbersInRange (serving 64 1 0) → ⊥)
    × (HasNumbersInRange (serving 64 1 1000001) → ⊥)
serving_outside = (
  λ h. omega (arith, h.0.0),
  λ h. omega (arith, h.0.1),
  λ h. omega (arith, h.1.0),
  λ h. omega (arith, h.1.1),
  λ h. omega (arith, h.2.0),
  λ h. omega (arith, h.2.1),
)

book_outside : HasNumbersInRange (dumping 65536) → ⊥
book_outside h = omega (arith, h)

sharing_outside :
    (HasNumbersInRange (sharing 65536 64) → ⊥) × (HasNumbersInRange (sharing 0 63) → ⊥)
    × (HasNumbersInRange (sharing 0 268435457) → ⊥)
sharing_outside = (λ h. omega (arith, h.0), λ h. omega (arith, h.1.0), λ h. omega (arith, h.1.1))

importing_within : HasNumbersInRange (importing 65535 64) × HasNumbersInRange (importing 0 268435456)
importing_within = ((omega arith, (omega arith, omega arith)), (omega arith, (omega arith, omega arith)))

importing_outside :
    (HasNumbersInRange (importing 65536 64) → ⊥) × (HasNumbersInRange (importing 0 63) → ⊥)
    × (HasNumbersInRange (importing 0 268435457) → ⊥)
importing_outside = (λ h. omega (arith, h.0), λ h. omega (arith, h.1.0), λ h. omega (arith, h.1.1))

asking_within : HasNumbersInRange (asking 1 (codes "a")) × HasNumbersInRange (asking 65535 (codes "か"))
unfolding encode
asking_within = (((omega arith, omega arith), refl), ((omega arith, omega arith), refl))

asking_outside :
    (HasNumbersInRange (asking 0 (codes "a")) → ⊥) × (HasNumbersInRange (asking 65536 (codes "a")) → ⊥)
    × (HasNumbersInRange (asking 1 (codes "a b")) → ⊥) × (HasNumbersInRange (asking 1 []) → ⊥)
unfolding encode
asking_outside = (λ h. omega (arith, h.0.0), λ h. omega (arith, h.0.1), λ h. cc (h.1), λ h. cc (h.1))

loading_outside :
    (HasNumbersInRange (loading (2 ^ 64) 1 1) → ⊥) × (HasNumbersInRange (loading 0 0 1) → ⊥)
    × (HasNumbersInRange (loading 0 65 1) → ⊥)
    × (HasNumbersInRange (loading 0 1 0) → ⊥) × (HasNumbersInRange (loading 0 1 20001) → ⊥)
loading_outside = (
  λ h. omega (arith, h.0),
  λ h. omega (arith, h.1.0),
  λ h. omega (arith, h.1.1),
  λ h. omega (arith, h.2.0),
  λ h. omega (arith, h.2.1),
)

-- with threads, the ranges are the same
in_threads : (limit seed sessions lines : ℕ)
    → (HasNumbersInRange (typing limit) ≡ HasNumbersInRange (Waiting (waiting.TypeScript
    (record { dictionaries = record { items = [] }; rules = None; learned = None; limit = Some limit }))))
    × (HasNumbersInRange (loading seed sessions lines)
    ≡ HasNumbersInRange (Waiting (waiting.Load (record { seed = seed; sessions = sessions; lines = lines }))))
in_threads limit seed sessions lines = (refl, refl)
