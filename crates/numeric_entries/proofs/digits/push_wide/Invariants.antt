use Rattle.std.proofs.Common.{◌≡◌, ◌++◌, map, take}
use Rattle.skk_text.specs.Kana.{wide}
use Rattle.numeric_entries.proofs.digits.push_wide.Given as goal

abbrev pub invariant-loop-digit : goal.invariant-loop-digit
invariant-loop-digit l = l.text ≡ l.fn.text ++ map wide (take l.digit-index l.digits)
