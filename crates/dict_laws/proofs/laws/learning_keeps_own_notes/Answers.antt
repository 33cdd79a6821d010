use Rattle.skk_calls.specs.KeyLaws.{same_itself}
use Rattle.skk_calls.specs.Learning.{row_or_empty}
use Rattle.dict_laws.proofs.AnnotationsTold.{own_note_learnt}
use Rattle.dict_laws.proofs.laws.learning_keeps_own_notes.Goals as goal

pub returns : goal.returns
returns c before key okuri cand stamp own =
    rw (same_itself cand.word) (own_note_learnt (row_or_empty key before).cands cand own)
