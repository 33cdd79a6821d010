use Rattle.std.proofs.Common.{◌≡◌, ◌<◌, ◌∙◌, [], length, get_or, map, ap, sym, arith}
use Rattle.std.proofs.lemmas.List.{get_or-map, length-map}
use Rattle.std.proofs.lemmas.Result.{IfOk-weaker}
use Rattle.skk_calls.specs.Walks.{next_above}
use Rattle.dict_files.specs.Walked.{walked_readings}
use Rattle.dict_layers.specs.SystemFiles.{rows_in}
use Rattle.dict_layers.proofs.system.SystemWalk.above.Goals as goal

pub returns : goal.returns
returns c =
    let files = c.args.self.now in
    let items = c.deref.result.now.items in
    let are : map rows_in items ≡ files = ap (λ held. map rows_in held.items) c.deref.ensures ∙ c.self.view_is in
    let file = c.args.file in
    let low : file < length files = omega (arith, c.requires, length-map files walked_readings) in
    let here : rows_in c.index.result.now ≡ get_or files file [] =
    ap rows_in c.index.ensures
    ∙ sym (get_or-map rows_in items file c.index.result.now []
    (omega (arith, low, ap length are, length-map items rows_in)))
    ∙ ap (λ all. get_or all file []) are in
    let walked = ap walked_readings here ∙ sym (get_or-map walked_readings files file [] [] low) in
    IfOk-weaker c.reading_above.result _ _
    (λ next is. is ∙ ap (λ readings. next_above readings c.args.low.now) walked) c.reading_above.ensures
