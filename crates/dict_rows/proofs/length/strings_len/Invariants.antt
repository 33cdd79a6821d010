use Rattle.std.proofs.Common.{◌≡◌, ◌∷◌, take}
use Rattle.std.specs.List.{flat_map}
use Rattle.skk_calls.specs.Canonical.{quoted}
use Rattle.dict_rows.specs.Lengths.{told_len}
use Rattle.dict_rows.proofs.length.strings_len.Given as goal

-- those so far were counted
abbrev pub invariant-loop-word : goal.invariant-loop-word
invariant-loop-word l = l.bytes ≡ told_len (flat_map (λ x. 0x20 ∷ quoted x) (take l.word-index l.words))
