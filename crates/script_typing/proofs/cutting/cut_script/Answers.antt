use Rattle.script_typing.proofs.cutting.cut_script.Goals as goal

pub cut_lines-requires : goal.cut_lines-requires
cut_lines-requires c = rw c.into_lines.ensures.value c.into_lines.ensures.valid

pub returns-clause-tasks : goal.returns-clause-tasks
returns-clause-tasks c = rw c.into_lines.ensures.value at c.cut_lines.ensures.tasks

pub returns-clause-order : goal.returns-clause-order
returns-clause-order c = rw c.into_lines.ensures.value at c.cut_lines.ensures.order
