use Rattle.std.proofs.Common.{◌∷◌, [], ◌++◌, refl, rules}
use Rattle.romaji_rules.proofs.Begins.{goes_on-exact, standing-goes_on}
use Rattle.romaji_rules.proofs.rules.Rules.goes_on.Goals as goal

pub returns-in-Begins : goal.returns-in-Begins
returns-in-Begins c =
    let text = c.args.pending.now ++ c.args.c ∷ [] in
    let goes = standing-goes_on c.args.self.now text text c.standing.result c.standing.ensures.standing c.in-Begins.is
    refl in
    record { exact = goes.0; computed = goes.1 }

pub returns-in-Neither-clause-exact : goal.returns-in-Neither-clause-exact
returns-in-Neither-clause-exact c = goes_on-exact c.args.self.now (c.args.pending.now ++ c.args.c ∷ []) _ (search rules)
