use Rattle.std.proofs.Common.{◌∙◌, map, sym, ap}
use Rattle.std.specs.List.{flat_map, list_all}
use Rattle.skk_text.specs.Lists.{is_empty}
use Rattle.skk_calls.specs.Canonical.{item, with_slash}
use Rattle.skk_calls.specs.PlainLaws.{plain_parts}
use Rattle.skk_calls.specs.Rows.{is_cand, texts_differ, words_of}
use Rattle.skk_calls.proofs.plain_cands.PlainCands.text.Goals as goal

pub returns-clause-value : goal.returns-clause-value
returns-clause-value c =
    sym (plain_parts c.self.inside.text c.self.invariant).written
    ∙ ap (λ cands. flat_map with_slash (map item cands)) c.self.view_is

pub returns-clause-valid : goal.returns-clause-valid
returns-clause-valid c =
    ap (list_all is_cand) (sym c.self.view_is) ∙ (plain_parts c.self.inside.text c.self.invariant).valid

pub returns-clause-differ : goal.returns-clause-differ
returns-clause-differ c =
    ap (λ cands. texts_differ (words_of cands)) (sym c.self.view_is)
    ∙ (plain_parts c.self.inside.text c.self.invariant).differ

pub returns-clause-some : goal.returns-clause-some
returns-clause-some c =
    ap is_empty (sym c.self.view_is) ∙ (plain_parts c.self.inside.text c.self.invariant).some_cand
