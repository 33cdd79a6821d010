use Rattle.std.proofs.Common.{◌∙◌, sym, arith}
use Rattle.dict_rows.proofs.LineLengths.{note_none}
use Rattle.dict_rows.proofs.length.note_len.Goals as goal

pub returns-in-0 : goal.returns-in-0
returns-in-0 c = omega (arith, note_none c.args.note.now (sym c.len_of.ensures ∙ c.in-0.is))
