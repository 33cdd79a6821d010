use Rattle.std.proofs.Common.{◌∙◌, ap, sym}
use Rattle.std.proofs.lemmas.Bool.{and_from}
use Rattle.std.specs.Str.{all_scalars}
use Rattle.skk_calls.specs.Canonical.{item}
use Rattle.learned_store.proofs.Spelled.{utf8_scalars}
use Rattle.learned_store.proofs.writing.note_payload.Goals as goal

pub returns-clause-characters : goal.returns-clause-characters
returns-clause-characters c =
    and_from (all_scalars c.args.key.now.reading) (all_scalars (item c.args.cand.now))
    (ap all_scalars (sym c.reading.ensures.value)
    ∙ utf8_scalars c.reading.result.now c.as_bytes.result.now c.as_bytes.ensures.utf8
    (c.as_bytes.ensures.value ∙ c.as_str-reading.ensures.value))
    (ap all_scalars (sym c.in_ok-item.ensures)
    ∙ utf8_scalars c.in_ok-item.item c.as_bytes-2.result.now c.as_bytes-2.ensures.utf8
    (c.as_bytes-2.ensures.value ∙ c.as_str.ensures.value))
