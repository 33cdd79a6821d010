use Rattle.std.proofs.Common.{arith, subst, take, length, sym, Err}
use Rattle.std.specs.Io.KnownBytes.{Consumes}
use Rattle.skkserv_client.specs.declared.told.AskFault.TheVariants as faults
use Rattle.skkserv_client.specs.Hearing.{HearsLine}
use Rattle.skkserv_client.proofs.Lines.{ends_open}
use Rattle.skkserv_client.proofs.hearing.hear_more.Goals as goal

pub returns-then-count-eq0-clause-heard : goal.returns-then-count-eq0-clause-heard
returns-then-count-eq0-clause-heard g c =
    let left = g.K.Outside.left in
    let bytes = c.in_ok-count.ensures.bytes in
    let none = c.if-count-eq0.true in
    subst (λ line. HearsLine (left c.args.link.now) c.args.line.now (Err (faults.Ended (length line))))
    (sym c.as_slice.ensures)
    (ends_open c.args.line.now (left c.args.link.now) (left c.read.new.self) c.requires.begun
    (subst (λ n. Consumes (left c.args.link.now) (left c.read.new.self) (take n c.read.new.into)) none bytes.0)
    (bytes.1 none (omega (arith, c.requires.room))))
