use Rattle.learned_store.proofs.ReadForms.{form_read, form_found}
use Rattle.learned_store.proofs.ReadRows.{lines_are_read}
use Rattle.learned_store.proofs.payload.read_form.Goals as goal

pub returns-clause-some : goal.returns-clause-some
returns-clause-some c =
    form_read (record {
      read = c.lines_spell_one_row.ensures.read;
      valid = c.lines_spell_one_row.ensures.valid;
      key = c.lines_spell_one_row.ensures.key;
    }) c.args.payload.now c.in_ok-form.form c.in_ok-form.ensures

pub returns-clause-only : goal.returns-clause-only
returns-clause-only c =
    form_found (lines_are_read c.good_rows_are_read_again.ensures c.lines_spell_one_row.ensures.read)
    c.args.payload.now c.in_ok-form.form c.in_ok-form.ensures
