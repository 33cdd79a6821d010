use Rattle.std.proofs.Common.{◌≡◌, ◌∙◌, ◌++◌, ◌∷◌, [], ℕ, Option, None, map, get_or, replicate, ap, arith}
use Rattle.std.proofs.Math.ListN.{get_or-eq_default}
use Rattle.std.proofs.lemmas.List.{get_or-replicate, length-replicate}
use Rattle.romaji_rules.proofs.Tries.{holds_none, kids, place}
use Rattle.romaji_rules.proofs.rule_trie.RuleTrie.new.Goals as goal

nothing : (count i : ℕ) → get_or {A = Option ℕ} (replicate count None) i None ≡ None
nothing count i = grind (arith, get_or-replicate, get_or-eq_default, length-replicate)

pub returns : goal.returns
returns c =
    let node = c.new.result in
    let nodes : c.push.new.self.items ≡ node ∷ [] =
    c.in_ok-push.ensures.items ∙ ap (λ ns. ns ++ node ∷ []) c.new-nodes.ensures.items in
    let first : c.in_ok-first.first.value ≡ replicate 256 None = c.in_ok-first.ensures.ok in
    holds_none _ (ap (map kids) nodes ∙ ap (λ cs. cs ∷ []) c.new.ensures.children)
    (ap (map place) nodes ∙ ap (λ p. p ∷ []) c.new.ensures.place)
    (λ letter. ap (λ vs. get_or vs letter None) first ∙ nothing 256 letter)
