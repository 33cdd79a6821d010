use Rattle.dict_format.proofs.LineReading.{row_or_reason, not_both}
use Rattle.dict_format.proofs.laws.lines_spell_rows_or_have_reasons.Goals as goal

pub returns : goal.returns
returns c = record { one = row_or_reason; not_both = not_both }
