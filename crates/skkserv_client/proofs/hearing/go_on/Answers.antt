use Rattle.std.proofs.Common.{sym, subst}
use Rattle.skkserv_client.specs.Hearing.{IsBegunLine}
use Rattle.skkserv_client.proofs.Lines.{ends_here, gets_long, stays_open}
use Rattle.skkserv_client.proofs.hearing.go_on.Goals as goal

pub returns-in_ok-push_bytes-in-Here-clause-heard : goal.returns-in_ok-push_bytes-in-Here-clause-heard
returns-in_ok-push_bytes-in-Here-clause-heard c =
    let ends = rw c.as_slice.ensures at c.in-Here.ensures in
    ends_here c.args.line.now c.args.bytes.now c.requires c.in-Here.end.now c.in-Here.field-1.now c.push_bytes.new.self
    ends.0 ends.1 c.in_ok-push_bytes-in-Here.ensures.ok

pub returns-in_ok-push_bytes-in-Open-clause-heard : goal.returns-in_ok-push_bytes-in-Open-clause-heard
returns-in_ok-push_bytes-in-Open-clause-heard c =
    let goes = rw c.as_slice.ensures at c.in-Open.ensures in (
      c.in_ok-push_bytes-in-Open.ensures.ok,
      subst IsBegunLine (sym c.in_ok-push_bytes-in-Open.ensures.ok)
          (stays_open c.args.line.now c.args.bytes.now c.requires goes.0 goes.1),
    )

pub returns-in-TooLong-clause-heard : goal.returns-in-TooLong-clause-heard
returns-in-TooLong-clause-heard c =
    gets_long c.args.line.now c.args.bytes.now c.requires (rw c.as_slice.ensures at c.in-TooLong.ensures)
