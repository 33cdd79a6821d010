-- Interactions of which one is the first of another.
use Rattle.std.specs.Prelude.{◌≡◌, ⊤}
use Rattle.skk_calls.specs.declared.answer.Answer.{Answer}
use Rattle.skk_calls.specs.Interactions.{Interaction, ends, asks, prints}

-- an interaction is the first of another: up to its end it asks the same, whatever is answered, and prints the same
abbrev pub IsFirstOf : {S : Type 0} → Interaction S → Interaction S → Type 0
IsFirstOf (ends value) other = ⊤
IsFirstOf (asks call next) (asks call' next') =
    (call ≡ call') × ((answer : Answer) → IsFirstOf (next answer) (next' answer))
IsFirstOf (prints text rest) (prints text' rest') = (text ≡ text') × IsFirstOf rest rest'
IsFirstOf (asks call next) (ends value) = ⊥
IsFirstOf (asks call next) (prints text rest) = ⊥
IsFirstOf (prints text rest) (ends value) = ⊥
IsFirstOf (prints text rest) (asks call next) = ⊥
