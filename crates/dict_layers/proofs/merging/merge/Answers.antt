use Rattle.std.proofs.Common.{◌∙◌, ap, map}
use Rattle.std.specs.Option.{option_copied}
use Rattle.skk_calls.specs.Rows.{texts_differ, words_of}
use Rattle.dict_layers.proofs.LayersAdded.{merged_differ}
use Rattle.dict_layers.proofs.merging.merge.Goals as goal

pub new-requires : goal.new-requires
new-requires c =
    ap (λ cands. texts_differ (words_of cands)) c.in_ok-cands.ensures
    ∙ merged_differ (map (λ row. row.now) c.as_slice.result.now) (option_copied c.args.okuri)
