use Rattle.std.proofs.Common.{◌∙◌, ◌++◌, ◌∷◌, [], ap, codes, encode_utf8_all}
use Rattle.skkserv_proto.proofs.Listing.{listed-plain}
use Rattle.skkserv_proto.proofs.reply.plain_list.Goals as goal

pub returns : goal.returns
returns c bytes =
    c.in_ok-push.ensures.items
    ∙ ap (λ ys. ys ++ 10 ∷ [])
    (c.in_ok-extend_from_slice-2.ensures.items
    ∙ ap (λ ys. ys ++ c.as_bytes-text.result.now)
    (c.in_ok-extend_from_slice.ensures.items ∙ ap (λ ys. ys ++ codes "1/") c.in_ok-sent.ensures.items)
    ∙ ap (λ ys. codes "1/" ++ ys)
    (c.as_bytes-text.ensures.value ∙ c.as_str.ensures.value ∙ ap encode_utf8_all c.text.ensures.value))
    ∙ listed-plain c.args.cands.now bytes c.text.ensures.some
