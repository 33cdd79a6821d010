use Rattle.std.specs.Str.{chars}
use Rattle.romaji_rules.proofs.standard.add_vowel_rows.Goals as goal

-- the rows are computed from the texts
pub returns : goal.returns
unfolding chars
returns c = c.add_rows.ensures
