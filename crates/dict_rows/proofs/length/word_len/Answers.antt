use Rattle.std.proofs.Common.{◌∙◌, sym, arith}
use Rattle.dict_rows.proofs.LineLengths.{quoted_word}
use Rattle.dict_rows.proofs.length.word_len.Goals as goal

pub returns-then-needs_quotes : goal.returns-then-needs_quotes
returns-then-needs_quotes c =
    omega (
      arith,
      quoted_word c.args.word.now (sym c.needs_quotes.ensures ∙ c.if-needs_quotes.true),
      c.string_len.ensures,
      c.len.ensures,
      c.saturating_add.ensures,
    )
