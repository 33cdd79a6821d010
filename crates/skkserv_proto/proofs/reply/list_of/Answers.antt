use Rattle.std.proofs.Common.{◌∙◌, ◌++◌, ap, sym, map, codes}
use Rattle.std.specs.List.{flat_map}
use Rattle.std.proofs.lemmas.List.Folds.{flat_map-map}
use Rattle.skk_calls.specs.Canonical.{item}
use Rattle.skkserv_proto.specs.Replies.{item_bytes}
use Rattle.skkserv_proto.proofs.reply.list_of.Goals as goal

pub returns : goal.returns
returns c =
    let cands = c.args.cands.now in
    c.in_ok-sent.ensures (map item cands)
    (c.in_ok-print_each.ensures ∙ ap (λ ys. ys ++ flat_map (λ cand. item_bytes (item cand)) c.as_slice.result.now)
    c.in_ok-listing.ensures
    ∙ ap (λ ys. codes "1/" ++ ys)
    (ap (flat_map (λ cand. item_bytes (item cand))) c.as_slice.ensures ∙ sym (flat_map-map item_bytes item cands)))
