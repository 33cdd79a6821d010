use Rattle.std.proofs.Common.{◌∙◌, ap, sym}
use Rattle.std.specs.Str.{all_scalars}
use Rattle.learned_store.proofs.Spelled.{utf8_scalars}
use Rattle.learned_store.proofs.writing.drop_record.Goals as goal

pub returns-clause-characters : goal.returns-clause-characters
returns-clause-characters c =
    ap all_scalars (sym c.reading.ensures.value)
    ∙ utf8_scalars c.reading.result.now c.as_bytes.result.now c.as_bytes.ensures.utf8
    (c.as_bytes.ensures.value ∙ c.as_str.ensures.value)
