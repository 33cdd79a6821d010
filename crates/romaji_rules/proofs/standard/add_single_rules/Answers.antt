use Rattle.std.specs.Str.{chars}
use Rattle.romaji_rules.proofs.standard.add_single_rules.Goals as goal

-- the rules are computed from the texts
pub returns : goal.returns
unfolding chars
returns c = c.add_singles.ensures
