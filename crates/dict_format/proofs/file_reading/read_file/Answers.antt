use Rattle.std.proofs.Common.{◌≡◌, ap, Err}
use Rattle.dict_format.specs.declared.file.FileFault.TheVariants.{NoText}
use Rattle.dict_format.proofs.FileEntries.{only-listed, memory-alone}
use Rattle.dict_format.proofs.file_reading.read_file.Goals as goal

pub returns-in-Ok-clause-only : goal.returns-in-Ok-clause-only
returns-in-Ok-clause-only c =
    only-listed c.args.bytes.now c.in-Ok.text.now c.read_valid.result c.in-Ok.ensures.text
    c.read_valid.ensures.ok c.read_valid.ensures.memory

pub returns-in-Ok-clause-no_text : goal.returns-in-Ok-clause-no_text
returns-in-Ok-clause-no_text c fault =
    let no_fault = c.in-Ok.ensures.exact fault in (
      λ told. absurd (memory-alone c.read_valid.result fault c.read_valid.ensures.memory told),
      λ is. let never = no_fault.1 is in cc,
    )

pub returns-in-Err-clause-no_text : goal.returns-in-Err-clause-no_text
returns-in-Err-clause-no_text c fault =
    let exact = c.in-Err.ensures.exact fault in (
      λ told. exact.0 (let same : c.in-Err.fault ≡ fault = cc in ap Err same),
      λ is. let same : c.in-Err.fault ≡ fault = (let told = exact.1 is in cc) in ap (λ given. Err (NoText given)) same,
    )
