use Rattle.std.proofs.Common.{◌∙◌, ◌∷◌, [], ◌++◌}
use Rattle.romaji_rules.proofs.Tries.{node_within, place_told, rule_told}
use Rattle.romaji_rules.proofs.rule_trie.RuleTrie.look_up_behind.Goals as goal

pub told-requires-clause-there : goal.told-requires-clause-there
told-requires-clause-there c =
    node_within c.args.rules.now c.args.self.now (c.args.text.now ++ c.args.letter ∷ []) c.requires c.node_behind.result
    c.node_behind.ensures

pub told-requires-clause-place : goal.told-requires-clause-place
told-requires-clause-place c =
    place_told c.args.rules.now c.args.self.now (c.args.text.now ++ c.args.letter ∷ []) c.requires c.node_behind.result
    c.node_behind.ensures

pub returns-clause-rule : goal.returns-clause-rule
returns-clause-rule c =
    c.told.ensures.rule
    ∙ rule_told c.args.rules.now c.args.self.now (c.args.text.now ++ c.args.letter ∷ []) c.requires c.node_behind.result
    c.node_behind.ensures
