use Rattle.std.proofs.Common.{◌≡◌, take}
use Rattle.std.specs.List.{flat_map}
use Rattle.skk_calls.specs.Canonical.{with_slash, written_word}
use Rattle.dict_rows.specs.Lengths.{told_len}
use Rattle.dict_rows.proofs.length.words_len.Given as goal

-- those so far were counted
abbrev pub invariant-loop-word : goal.invariant-loop-word
invariant-loop-word l = l.bytes ≡ told_len (flat_map (λ x. with_slash (written_word x)) (take l.word-index l.words))
