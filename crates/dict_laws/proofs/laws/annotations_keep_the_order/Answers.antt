use Rattle.skk_calls.specs.Learning.{row_or_empty}
use Rattle.dict_laws.proofs.AnnotationsTold.{words_in_order, note_annotated, notes_left}
use Rattle.dict_laws.proofs.Texts.{has_without}
use Rattle.dict_laws.proofs.laws.annotations_keep_the_order.Goals as goal

pub returns-clause-order : goal.returns-clause-order
returns-clause-order c before key cand stamp = words_in_order cand (row_or_empty key before).cands

pub returns-clause-note : goal.returns-clause-note
returns-clause-note c before key cand stamp = note_annotated cand (row_or_empty key before).cands

pub returns-clause-others : goal.returns-clause-others
returns-clause-others c before key cand stamp word other =
    notes_left cand (row_or_empty key before).cands word other

pub returns-clause-shown : goal.returns-clause-shown
returns-clause-shown c before key cand stamp = has_without cand.word (row_or_empty key before).hides
