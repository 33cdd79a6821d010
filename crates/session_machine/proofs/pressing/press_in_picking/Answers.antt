use Rattle.std.proofs.Common.{◌∙◌, sym}
use Rattle.session_machine.proofs.Saying.{says-put}
use Rattle.session_machine.proofs.pressing.press_in_picking.Goals as goal

pub returns-then-opens_note : goal.returns-then-opens_note
returns-then-opens_note g c =
    rw (sym c.opens_note.ensures ∙ c.if-opens_note.true)
    (says-put _ c.register.result c.register.new.session _ c.register.ensures)
