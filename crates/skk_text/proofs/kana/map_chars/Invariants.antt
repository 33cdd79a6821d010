use Rattle.std.proofs.Common.{◌≡◌, map}
use Rattle.skk_text.proofs.kana.map_chars.Given as goal

abbrev pub invariant-loop-c : goal.invariant-loop-c
invariant-loop-c g l = l.mapped ≡ map g.M.CharMap.mapped l.yielded
