use Rattle.std.proofs.Common.{◌≡◌, take}
use Rattle.skk_text.specs.KeyText.{spelled}
use Rattle.skk_text.proofs.key_text.print_keys.Given as goal

abbrev pub invariant-loop-place : goal.invariant-loop-place
invariant-loop-place l = l.text ≡ spelled (take l.place l.keys)
