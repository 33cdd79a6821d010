use Rattle.std.proofs.Common.{not, [], ◌∷◌, ◌++◌, take, ◌+◌, ap, sym, ◌∙◌, arith}
use Rattle.std.specs.Str.{bytes_eq}
use Rattle.std.proofs.lemmas.List.{take_more}
use Rattle.skk_text.specs.PairsLaws.{all_pairs-take}
use Rattle.romaji_rules.specs.Fitting.{inputs_differ}
use Rattle.romaji_rules.proofs.Differing.{none_before}
use Rattle.romaji_rules.proofs.rule_trie.RuleTrie.of.Goals as goal

-- the rules before this one have other inputs
pub add-requires-clause-new : goal.add-requires-clause-new
add-requires-clause-new c =
    let rules = c.args.rules.now in
    let place = c.loop-place.place in
    let rule = c.index-rules-place.result in
    none_before (take place rules) rule
    (ap (λ r. inputs_differ (take place rules ++ r ∷ [])) c.index-rules-place.is
    ∙ ap inputs_differ (sym (take_more rules place rule (omega (arith, c.loop-place-test.true))))
    ∙ all_pairs-take (λ r other. not (bytes_eq r.input other.input)) (place + 1) rules c.requires)
