use Rattle.std.proofs.Common.{◌∙◌, sym}
use Rattle.romaji_rules.proofs.rule_trie.RuleTrie.node_behind.Goals as goal

pub child-requires-clause-there : goal.child-requires-clause-there
child-requires-clause-there c =
    c.requires.within c.args.text.now c.in-Some.node (sym c.node_of.ensures ∙ c.in-Some.is)
