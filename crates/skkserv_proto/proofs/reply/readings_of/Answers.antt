use Rattle.std.proofs.Common.{◌∙◌, ◌++◌, Some, ap, sym, codes}
use Rattle.std.specs.List.{filter, flat_map}
use Rattle.skk_text.specs.Characters.{code}
use Rattle.exact_readers.specs.Lacking.{lacks}
use Rattle.skkserv_proto.specs.Replies.{readings_in, found_or_not, reading_bytes}
use Rattle.skkserv_proto.proofs.Listing.{listed-readings}
use Rattle.skkserv_proto.proofs.reply.readings_of.Goals as goal

pub returns : goal.returns
returns c =
    let readings = c.in-Readings.readings in
    c.in_ok-sent.ensures (filter (lacks (code "/")) readings)
    (c.in_ok-print_each.ensures ∙ ap (λ ys. ys ++ flat_map reading_bytes c.as_slice.result.now) c.in_ok-listing.ensures
    ∙ ap (λ ys. codes "1/" ++ ys) (ap (flat_map reading_bytes) c.as_slice.ensures ∙ listed-readings readings))
    ∙ ap (λ r. found_or_not c.args.bytes.now (readings_in (Some r))) (sym c.in-Readings.is)
