use Rattle.std.proofs.Common.{◌∙◌, None, Some, ap, sym, take, get_or, refl, arith}
use Rattle.std.proofs.lemmas.List.{take_more}
use Rattle.std.proofs.lemmas.List.Folds.{fold_stuck}
use Rattle.std.proofs.lemmas.List.Sums.{fold_push}
use Rattle.romaji_rules.specs.RuleTries.{children_of, next_node, node_of}
use Rattle.romaji_rules.proofs.rule_trie.RuleTrie.node_of.Goals as goal

pub child-requires-clause-there : goal.child-requires-clause-there
child-requires-clause-there c =
    c.requires.within (take c.loop-letter.letter-index c.args.text.now) c.loop-letter.node c.loop-letter.invariant

pub returns-in_err-node : goal.returns-in_err-node
returns-in_err-node c =
    let text = c.args.text.now in
    let index = c.loop-letter.letter-index in
    let next = next_node (children_of c.args.self.now) in
    c.from_residual.ensures
    ∙ fold_stuck next None (λ _. refl) (Some 0) text index 0 (omega (arith, c.loop-letter-test.true))
    (ap (λ n. next n (get_or text index 0)) c.loop-letter.invariant ∙ sym c.in_err-node.ensures)

pub loop-letter-preserved : goal.loop-letter-preserved
loop-letter-preserved c =
    let text = c.args.text.now in
    let index = c.loop-letter.letter-index in
    let next = next_node (children_of c.args.self.now) in
    ap (node_of (children_of c.args.self.now)) (take_more text index 0 (omega (arith, c.loop-letter-test.true)))
    ∙ fold_push next (Some 0) (take index text) (get_or text index 0)
    ∙ ap (λ n. next n (get_or text index 0)) c.loop-letter.invariant ∙ sym c.in_ok-node.ensures
