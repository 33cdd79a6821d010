use Rattle.std.proofs.Common.{◌∙◌, ap, sym}
use Rattle.numeric_entries.specs.Numbers.{number_key}
use Rattle.session_machine.proofs.NumberReadings.{digits-some, key_valid}
use Rattle.session_machine.proofs.reading_parts.registered_text.Goals as goal

pub returns-in-Some-clause-plain : goal.returns-in-Some-clause-plain
returns-in-Some-clause-plain c = λ some.
    let reading = c.args.reading.now in
    let has = ap number_key (sym c.text.ensures.value) ∙ sym c.in_ok-key.ensures ∙ c.in-Some.is in
    rw (c.into_parts.ensures.key ∙ (digits-some reading.text c.in-Some.key has).1.0)
    (key_valid reading.text (c.text.ensures.plain some))
