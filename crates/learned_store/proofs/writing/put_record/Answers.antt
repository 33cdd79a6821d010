use Rattle.std.proofs.Common.{◌∙◌, ap, sym}
use Rattle.std.specs.Str.{all_scalars}
use Rattle.learned_store.proofs.Spelled.{utf8_scalars}
use Rattle.learned_store.proofs.writing.put_record.Goals as goal

pub returns-clause-characters : goal.returns-clause-characters
returns-clause-characters c =
    ap all_scalars (sym c.in_ok-line.ensures.canonical)
    ∙ utf8_scalars _ c.as_bytes.result.now c.as_bytes.ensures.utf8
    (c.as_bytes.ensures.value ∙ c.as_str.ensures.value)
