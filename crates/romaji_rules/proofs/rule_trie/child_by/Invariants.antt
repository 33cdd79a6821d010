use Rattle.std.proofs.Common.{◌≡◌, drop}
use Rattle.romaji_rules.specs.RuleTries.{child_by}
use Rattle.romaji_rules.proofs.rule_trie.child_by.Given as goal

-- the letter leads where it does from what is left
abbrev pub invariant-loop-child : goal.invariant-loop-child
invariant-loop-child l = child_by (drop l.child-index l.children) l.letter ≡ child_by l.children l.letter
