use Rattle.std.proofs.Common.{◌≡◌, ◌<◌, ◌∙◌, ◌==◌, ◌&&◌, ◌++◌, ◌∷◌, [], Some, None, cond, length, get_or, refl, sym, ap}
use Rattle.std.proofs.Common.{rules, arith}
use Rattle.std.proofs.lemmas.List.{length-map}
use Rattle.romaji_rules.specs.declared.rule_trie.Node.{Node}
use Rattle.romaji_rules.specs.RuleTries.{child}
use Rattle.romaji_rules.proofs.Tries.{added_children, added_places, kids}
use Rattle.romaji_rules.proofs.rule_trie.RuleTrie.add_child.Goals as goal

pub returns : goal.returns
returns c =
    let before = c.args.self.now.nodes.items in
    let nodes = c.push.new.self.items in
    let node = c.args.node in
    let letter = c.args.letter in
    let there = c.index_mut.result.now in
    let changed : Node = record { place = there.place; children = c.push-2.new.self } in
    let count : c.len-child.result ≡ length before = search rules in
    let lt : node < length before = omega (arith, c.requires, length-map before kids) in
    let pushed = c.in_ok-push.ensures.items in
    let read = c.index_mut.ensures.value in
    record {
      number = count ∙ sym (length-map before kids);
      children = added_children before nodes node letter c.new.result there changed pushed lt read
          c.new.ensures.children
          (c.in_ok-push-2.ensures.items ∙ ap (λ n. there.children.items ++ child letter n ∷ []) count);
      places = added_places before nodes node letter c.new.result there changed pushed lt read c.new.ensures.place refl;
      first = λ other. c.note_first.ensures other
          ∙ ap (λ noted. cond (node == 0 && other == letter) (Some c.len-child.result) (get_or noted other None))
          c.deref_mut.ensures.value;
    }
