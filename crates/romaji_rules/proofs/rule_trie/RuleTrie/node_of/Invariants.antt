use Rattle.std.proofs.Common.{◌≡◌, Some, take}
use Rattle.romaji_rules.specs.RuleTries.{children_of, node_of}
use Rattle.romaji_rules.proofs.rule_trie.RuleTrie.node_of.Given as goal

-- the node of the letters so far
abbrev pub invariant-loop-letter : goal.invariant-loop-letter
invariant-loop-letter l = node_of (children_of l.self) (take l.letter-index l.text) ≡ Some l.node
