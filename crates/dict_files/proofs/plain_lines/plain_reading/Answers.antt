use Rattle.std.proofs.Common.{◌∙◌, ap, refl, sym}
use Rattle.std.specs.Str.{chars}
use Rattle.skk_calls.specs.declared.part.Part.TheVariants.{Nasi}
use Rattle.dict_files.specs.Walked.{walked_reading}
use Rattle.dict_files.proofs.PlainLines.{plain_row}
use Rattle.dict_files.proofs.plain_lines.plain_reading.Goals as goal

pub returns-then-is_plain-clause-value : goal.returns-then-is_plain-clause-value
returns-then-is_plain-clause-value c =
    rw (
      sym c.in_ok-reading.ensures,
      sym c.in_ok-behind.ensures,
      sym c.is_plain.ensures ∙ c.if-is_plain.true,
    ) refl

pub returns-then-is_plain-clause-walked : goal.returns-then-is_plain-clause-walked
returns-then-is_plain-clause-walked c =
    let line = chars c.args.line.now in
    let (row, spells, walks) = plain_row line (chars c.in_ok-reading.reading.now) (chars c.in_ok-reading.rest.now)
    (chars c.in_ok-behind.behind.now) (sym c.in_ok-reading.ensures) (sym c.in_ok-behind.ensures)
    (sym c.is_plain.ensures ∙ c.if-is_plain.true) in
    ap walked_reading ((c.lines_spell_one_row.ensures.read Nasi line row).0 spells) ∙ walks
