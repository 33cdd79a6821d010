use Rattle.std.proofs.Common.{List, ℕ, get_or, subst, sym, take, arith}
use Rattle.std.proofs.lemmas.List.{take_more}
use Rattle.romaji_rules.specs.RuleTries.{HasNode}
use Rattle.romaji_rules.proofs.Tries.{child_made, none_made}
use Rattle.romaji_rules.proofs.rule_trie.RuleTrie.make_node.Goals as goal

pub loop-letter-init : goal.loop-letter-init
loop-letter-init c = none_made c.args.self.now c.requires

pub loop-letter-preserved : goal.loop-letter-preserved
loop-letter-preserved c =
    let text = c.args.text.now in
    let index = c.loop-letter.letter-index in
    subst (λ (t : List ℕ). HasNode c.args.self.now c.make_child.new.self t c.in_ok-node.node)
    (sym (take_more text index 0 (omega (arith, c.loop-letter-test.true))))
    (child_made c.args.self.now c.loop-letter.self c.make_child.new.self (take index text) c.loop-letter.node
    (get_or text index 0) c.in_ok-node.node c.loop-letter.invariant c.in_ok-node.ensures)
