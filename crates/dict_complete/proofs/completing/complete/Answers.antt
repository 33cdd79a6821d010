use Rattle.std.proofs.Common.{◌≤◌, ◌∙◌, [], ap, arith, fold, length, sym}
use Rattle.std.specs.List.{filter, flat_map}
use Rattle.std.proofs.lemmas.List.{take_all}
use Rattle.std.proofs.lemmas.Result.{IfOk-weaker}
use Rattle.skk_calls.specs.Completions.{completion_limit, goes_on_from}
use Rattle.dict_complete.specs.FirstReadings.{among_added}
use Rattle.dict_complete.specs.Joined.{readings_in, with_more}
use Rattle.dict_complete.proofs.completing.complete.Goals as goal

pub returns : goal.returns
returns g c =
    let files = g.W.Walk.files c.args.system.now in
    let prefix = c.args.prefix.now in
    let more = with_more completion_limit in
    let all : length files ≤ c.loop-file.file = omega (arith, c.files-file-end.ensures, c.loop-file-test.false) in
    IfOk-weaker c.into_texts.result _ _
    (λ readings is.
    is ∙ c.loop-file.invariant
    ∙ ap (λ those. fold more (fold more [] (readings_in c.args.lists.now))
    (flat_map (filter (goes_on_from prefix)) those)) (take_all c.loop-file.file files all)
    ∙ sym (among_added c.args.lists.now files prefix))
    c.into_texts.ensures.value
