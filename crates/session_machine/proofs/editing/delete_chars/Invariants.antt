use Rattle.std.proofs.Common.{◌≡◌, ◌-◌, length, take}
use Rattle.session_machine.proofs.editing.delete_chars.Given as goal

abbrev pub invariant-loop : goal.invariant-loop
invariant-loop l = l.text ≡ take (length l.fn.text - l.counter) l.fn.text
