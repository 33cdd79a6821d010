use Rattle.std.proofs.Common.{take}
use Rattle.romaji_rules.specs.RuleTries.{HasNode}
use Rattle.romaji_rules.proofs.rule_trie.RuleTrie.make_node.Given as goal

-- the node of the letters so far
abbrev pub invariant-loop-letter : goal.invariant-loop-letter
invariant-loop-letter l = HasNode l.initial.self l.self (take l.letter-index l.text) l.node
