use Rattle.std.proofs.Common.{◌≡◌, ◌∙◌, ap, map}
use Rattle.std.specs.List.{list_all}
use Rattle.std.proofs.lemmas.Result.{IfOk-weaker}
use Rattle.skk_calls.specs.Completions.{completions}
use Rattle.skk_calls.specs.Dictionary.{is_plain_reading}
use Rattle.dict_files.specs.Walked.{walked_readings}
use Rattle.dict_complete.specs.Joined.{completions_among}
use Rattle.learn_index.proofs.Completions.{completions_plain, joined}
use Rattle.learn_index.proofs.completing.completions.Goals as goal
use Rattle.learn_index.proofs.completing.completions.Goals.{After-complete}

-- what is joined is what the dictionary completes
same : (c : After-complete)
    → completions_among c.in_ok-lists.lists (map walked_readings c.args.system.now) c.args.prefix.now
    ≡ completions c.args.system.now c.args.index.now.state c.args.who c.args.prefix.now
same c =
    let prefix = c.args.prefix.now in
    ap (λ lists. completions_among lists (map walked_readings c.args.system.now) prefix) c.in_ok-lists.ensures
    ∙ joined c.args.system.now c.args.index.now.state c.args.who prefix c.count-count.ensures.valid
    c.file_count-files.ensures.valid (c.walks_go_over_completions.ensures.completions prefix)

pub returns-clause-value : goal.returns-clause-value
returns-clause-value c =
    IfOk-weaker c.complete.result _ _ (λ readings is. is ∙ same (goal.at.returns-clause-value c).After-complete)
    c.complete.ensures

pub returns-clause-valid : goal.returns-clause-valid
returns-clause-valid c =
    IfOk-weaker c.complete.result _ _
    (λ readings is.
    ap (list_all is_plain_reading) (is ∙ same (goal.at.returns-clause-valid c).After-complete)
    ∙ completions_plain c.args.system.now c.args.index.now.state c.args.who c.args.prefix.now
    c.count-count.ensures.valid c.file_count-files.ensures.valid)
    c.complete.ensures
