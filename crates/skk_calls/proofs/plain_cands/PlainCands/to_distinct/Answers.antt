use Rattle.std.proofs.Common.{◌∙◌, ap}
use Rattle.std.specs.List.{list_all}
use Rattle.skk_calls.specs.PlainCands.{cands_in}
use Rattle.skk_calls.specs.PlainLaws.{plain_parts}
use Rattle.skk_calls.specs.Rows.{is_cand, texts_differ, words_of}
use Rattle.skk_calls.proofs.plain_cands.PlainCands.to_distinct.Goals as goal

pub cands_in-requires : goal.cands_in-requires
cands_in-requires c =
    ap (λ text. list_all is_cand (cands_in text)) c.as_str.ensures.characters
    ∙ (plain_parts c.self.inside.text c.self.invariant).valid

pub new-requires : goal.new-requires
new-requires c =
    ap (λ cands. texts_differ (words_of cands)) c.in_ok-cands.ensures
    ∙ ap (λ text. texts_differ (words_of (cands_in text))) c.as_str.ensures.characters
    ∙ (plain_parts c.self.inside.text c.self.invariant).differ
