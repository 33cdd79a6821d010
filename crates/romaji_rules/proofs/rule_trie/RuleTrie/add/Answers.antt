use Rattle.std.proofs.Common.{◌<◌, ℕ, List, Some, length, refl, subst, arith}
use Rattle.std.proofs.lemmas.List.{length-map, map-set}
use Rattle.romaji_rules.specs.declared.rule_trie.Node.{Node}
use Rattle.romaji_rules.specs.RuleTries.{HasNode}
use Rattle.romaji_rules.proofs.Tries.{kids, place, placed_children, rule_noted}
use Rattle.romaji_rules.proofs.rule_trie.RuleTrie.add.Goals as goal

pub returns : goal.returns
returns c =
    let before = c.args.self.now in
    let made = c.make_node.new.self in
    let node = c.in_ok-node.node in
    let has : HasNode before made c.args.rule.now.input node =
    subst (λ (t : List ℕ). HasNode before made t node) c.as_slice.ensures c.in_ok-node.ensures in
    let there = c.index_mut.result.now in
    let noted : Node = record { place = Some (length c.args.rules.now); children = there.children } in
    let lt : node < length made.nodes.items =
    omega (arith, has.trie.within c.args.rule.now.input node has.node_is, length-map made.nodes.items kids) in
    rule_noted c.args.rules.now c.args.rule.now before made _ node c.requires.trie c.requires.new has
    (placed_children made.nodes.items node there noted lt c.index_mut.ensures.value refl)
    (map-set place made.nodes.items node noted) refl
