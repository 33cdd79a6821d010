use Rattle.std.proofs.Common.{◌+◌, refl, arith}
use Rattle.skkserv_proto.specs.Requests.{ends_reading, longest_reading}
use Rattle.cut_input.specs.PieceLaws.{uncut-goes-on, begun-within}
use Rattle.skkserv_proto.proofs.Tokens.{bad-long}
use Rattle.skkserv_proto.proofs.front.front_of_reading.Goals as goal

pub returns-in-Open : goal.returns-in-Open
returns-in-Open c =
    let goes = uncut-goes-on ends_reading c.args.text.now c.in-Open.ensures.0 in
    (c.args.command, c.requires, refl, (goes, omega (arith, c.in-Open.ensures.1)))

pub returns-in-TooLong : goal.returns-in-TooLong
returns-in-TooLong c =
    let text = c.args.text.now in (
      longest_reading + 1,
      bad-long c.args.command c.args.wants text c.requires (omega (arith, c.in-TooLong.ensures)),
      omega (arith, c.saturating_sub.ensures, begun-within ends_reading text, c.in-TooLong.ensures),
    )
