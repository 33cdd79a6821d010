use Rattle.std.proofs.Common.{◌∙◌, ap, sym}
use Rattle.numeric_entries.specs.Numbers.{number_key}
use Rattle.session_machine.proofs.NumberReadings.{no_key}
use Rattle.session_machine.proofs.reading_parts.numbers_of.Goals as goal

pub returns-in-None-clause-value : goal.returns-in-None-clause-value
returns-in-None-clause-value c =
    let none = ap number_key (sym c.text.ensures.value) ∙ sym c.in_ok-key.ensures ∙ c.in-None.is in
    c.new.ensures ∙ sym (no_key c.args.reading.now.text none)
