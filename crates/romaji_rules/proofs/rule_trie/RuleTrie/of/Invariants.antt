use Rattle.std.proofs.Common.{take}
use Rattle.romaji_rules.specs.RuleTries.{IsRuleTrie}
use Rattle.romaji_rules.proofs.rule_trie.RuleTrie.of.Given as goal

abbrev pub invariant-loop-place : goal.invariant-loop-place
invariant-loop-place l = IsRuleTrie (take l.place l.rules) l.trie
