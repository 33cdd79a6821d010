use Rattle.skk_calls.proofs.BadNotes.{bad_note-searched}
use Rattle.skk_calls.proofs.cand.bad_note_at.Goals as goal

pub returns : goal.returns
returns c = bad_note-searched c.args.note.now c.utf8.note c.find.result c.find.ensures.cases
