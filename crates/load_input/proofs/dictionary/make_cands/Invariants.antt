use Rattle.std.proofs.Common.{◌≡◌, map, take}
use Rattle.load_input.specs.Dictionary.{candidate}
use Rattle.load_input.proofs.dictionary.make_cands.Given as goal

abbrev pub invariant-loop-digit : goal.invariant-loop-digit
invariant-loop-digit l = l.cands ≡ map (candidate l.reading) (take l.digit-index l.digits)
