use Rattle.std.proofs.Common.{◌∷◌, [], ◌++◌, ◌+◌, ◌∙◌, ap, min, subst}
use Rattle.skk_text.specs.Counts.{last_count}
use Rattle.skkserv_proto.specs.Feeding.{EndsAt}
use Rattle.skkserv_proto.specs.Requests.{asking, requests}
use Rattle.skkserv_proto.proofs.Feeds.{reads-ended, reads-open, reads-long}
use Rattle.skkserv_proto.proofs.next.next_in_reading.Goals as goal

pub returns-in_ok-place-in-Here-clause-reads : goal.returns-in_ok-place-in-Here-clause-reads
returns-in_ok-place-in-Here-clause-reads c =
    let reading = c.in-Here.reading.now in
    let behind = c.in-Here.behind.now in
    reads-ended c.args.wants c.args.text.now c.args.fed c.args.bytes.now reading behind c.in_ok-place-in-Here.place
    c.read_behind.new.read.items c.in-Here.ensures.0 c.in-Here.ensures.1
    (c.in_ok-place-in-Here.ensures.asked
    ∙ ap (λ ys. ys ++ requests behind)
    (c.in_ok-push-in-Here.ensures.items ∙ ap (λ ys. ys ++ c.request.result ∷ []) c.new-read.ensures.items
    ∙ ap (λ r. r ∷ []) (c.request.ensures ∙ ap (asking c.args.wants) c.in_ok-joined-in-Here.ensures)))
    (subst (λ n. EndsAt 0 n behind c.in_ok-place-in-Here.place) c.saturating_add-before.ensures
    c.in_ok-place-in-Here.ensures.place)

pub returns-in-Open-clause-reads : goal.returns-in-Open-clause-reads
returns-in-Open-clause-reads c =
    reads-open c.args.wants c.args.text.now c.args.fed c.args.bytes.now c.new.result.items c.in-Open.ensures.0
    c.in-Open.ensures.1 c.new.ensures.items

pub returns-in-TooLong-clause-reads : goal.returns-in-TooLong-clause-reads
returns-in-TooLong-clause-reads c =
    reads-long c.args.wants c.args.text.now c.args.fed c.saturating_add-at.result c.args.bytes.now
    c.new-in-TooLong.result.items c.in-TooLong.ensures c.new-in-TooLong.ensures.items
    (c.saturating_add-at.ensures ∙ ap (λ n. min (c.args.fed + n) last_count) c.saturating_sub-more.ensures)
