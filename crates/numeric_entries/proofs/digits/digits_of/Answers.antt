use Rattle.std.proofs.Common.{◌∙◌}
use Rattle.std.proofs.lemmas.Str.{encodes-IsAscii}
use Rattle.numeric_entries.proofs.Ascii.{digits-ascii}
use Rattle.numeric_entries.specs.RunLaws.{number_digits}
use Rattle.numeric_entries.proofs.digits.digits_of.Goals as goal

pub returns : goal.returns
returns c =
    let number = c.args.number.now in
    c.as_bytes.ensures.value ∙ c.as_str.ensures.value
    ∙ encodes-IsAscii number (digits-ascii number (number_digits number c.requires))
