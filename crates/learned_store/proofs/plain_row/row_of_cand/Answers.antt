use Rattle.std.proofs.Common.{◌≡◌, List, [], ◌∷◌, ◌++◌, ap, ◌∙◌}
use Rattle.skk_calls.specs.Rows.{Cand}
use Rattle.learned_store.proofs.PlainRows.{has_one}
use Rattle.learned_store.proofs.plain_row.row_of_cand.Goals as goal

pub returns : goal.returns
returns c =
    let cands : c.of.result ≡ c.args.cand ∷ [] =
    c.of.ensures ∙ c.in_ok-push.ensures.items
    ∙ ap (λ (l : List Cand). l ++ c.args.cand ∷ []) c.in_ok-cands.ensures.items in
    has_one c.new.result c.args.part c.args.key c.args.cand c.args.stamp c.of.result c.new-blocks.result
    c.new-hides.result c.new.ensures cands c.new-blocks.ensures c.new-hides.ensures c.requires c.part.ensures.valid
    c.word.ensures.valid
