use Rattle.std.proofs.Common.{rules}
use Rattle.romaji_rules.proofs.Step.{Fed-computed}
use Rattle.romaji_rules.proofs.rules.Rules.feed.Goals as goal

pub returns-in-Some-clause-exact : goal.returns-in-Some-clause-exact
returns-in-Some-clause-exact c =
    Fed-computed c.args.self.now c.args.pending.now c.args.c c.go_on.new.pending c.of.result (search rules)

pub returns-in-None-clause-exact : goal.returns-in-None-clause-exact
returns-in-None-clause-exact c =
    Fed-computed c.args.self.now c.args.pending.now c.args.c c.begin_anew.new.pending c.begin_anew.result (search rules)
