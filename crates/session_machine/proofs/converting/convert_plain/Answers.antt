use Rattle.std.proofs.Common.{◌∙◌, ap, sym}
use Rattle.numeric_entries.specs.Numbers.{number_key}
use Rattle.session_machine.proofs.NumberReadings.{digits-none}
use Rattle.session_machine.proofs.Saying.{says-becomes}
use Rattle.session_machine.proofs.converting.convert_plain.Goals as goal

pub returns-in-None : goal.returns-in-None
returns-in-None g c =
    let none = ap number_key (sym c.text.ensures.value) ∙ sym c.in_ok-number_key.ensures ∙ c.in-None.is in
    rw (digits-none c.args.reading.text none, sym c.shown_plain.ensures) (says-becomes _ _ _ c.pick.ensures)
