use Rattle.std.proofs.Common.{◌≡◌, ◌++◌, take}
use Rattle.skk_calls.specs.Learning.{without_text}
use Rattle.dict_rows.proofs.copying.add_texts_without.Given as goal

-- those of the texts so far were added
abbrev pub invariant-loop-other : goal.invariant-loop-other
invariant-loop-other l = l.copies ≡ l.fn.copies ++ without_text l.text (take l.other-index l.texts)
