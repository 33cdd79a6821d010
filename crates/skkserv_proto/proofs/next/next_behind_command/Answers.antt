use Rattle.std.proofs.Common.{◌++◌, ◌∙◌, ap}
use Rattle.skkserv_proto.specs.Requests.{requests}
use Rattle.skkserv_proto.proofs.Feeds.{reads-command}
use Rattle.skkserv_proto.proofs.next.next_behind_command.Goals as goal

pub returns-clause-reads : goal.returns-clause-reads
returns-clause-reads c =
    reads-command c.args.fed c.args.bytes.now c.in_ok-place.place c.read_behind.new.read.items
    (c.in_ok-place.ensures.asked ∙ ap (λ ys. ys ++ requests c.args.bytes.now) c.new-read.ensures.items)
    c.in_ok-place.ensures.place
