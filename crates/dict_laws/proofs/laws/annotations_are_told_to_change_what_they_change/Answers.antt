use Rattle.dict_laws.proofs.AnnotationsTold.{annotation_leaves, annotation_alters}
use Rattle.dict_laws.proofs.laws.annotations_are_told_to_change_what_they_change.Goals as goal

pub returns-clause-leaves : goal.returns-clause-leaves
returns-clause-leaves c = annotation_leaves

pub returns-clause-alters : goal.returns-clause-alters
returns-clause-alters c = annotation_alters
