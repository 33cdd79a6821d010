use Rattle.skk_calls.specs.States.{empty_state}
use Rattle.learned_store.proofs.ReadForms.{one_form}
use Rattle.learned_store.proofs.ReadRows.{lines_are_read}
use Rattle.learned_store.proofs.OneRecovery.{leads_once, whole_or_break, recovered_once}
use Rattle.learned_store.proofs.laws.files_are_recovered_in_one_way.Goals as goal

pub returns-clause-form : goal.returns-clause-form
returns-clause-form c = one_form (lines_are_read c.good_rows_are_read_again.ensures c.lines_spell_one_row.ensures.read)

pub returns-clause-state : goal.returns-clause-state
returns-clause-state c contents one two is also =
    leads_once (lines_are_read c.good_rows_are_read_again.ensures c.lines_spell_one_row.ensures.read) contents.version
    empty_state contents.records one two is also

pub returns-clause-whole : goal.returns-clause-whole
returns-clause-whole c contents at state whole one =
    whole_or_break (lines_are_read c.good_rows_are_read_again.ensures c.lines_spell_one_row.ensures.read) contents at
    state whole one

pub returns-clause-image : goal.returns-clause-image
returns-clause-image c =
    recovered_once (lines_are_read c.good_rows_are_read_again.ensures c.lines_spell_one_row.ensures.read)
