use Rattle.std.proofs.Common.{◌++◌, take, drop, sym, ◌∙◌, ap, subst, arith}
use Rattle.std.proofs.lemmas.List.{length-take-le}
use Rattle.skk_disk.specs.Image.{part}
use Rattle.skk_journal.specs.Heads.{head_of, HasVersion}
use Rattle.skk_journal.specs.Idle.{idle_of}
use Rattle.skk_journal.proofs.HeadsOf.{head_of-take, idle_of-take, front_read, head_right}
use Rattle.skk_journal.proofs.head.read_front.Goals as goal

pub returns-clause-head : goal.returns-clause-head
returns-clause-head g c tells =
    let file = part c.args.file (g.D.Disk.seen c.args.disk.now) in
    c.judge.ensures
    ∙ ap (head_of c.args.newest) (front_read c.in_ok-n.n c.read_full.new.into (drop 17 c.args.buffer.now) file
    (omega (arith, length-take-le 17 c.args.buffer.now (omega (arith, c.requires)))) c.in_ok-n.ensures.bound
    (c.in_ok-n.ensures.bytes tells))
    ∙ head_of-take c.args.newest file

pub returns-clause-right : goal.returns-clause-right
returns-clause-right g c =
    subst (HasVersion c.args.newest) (sym c.judge.ensures)
    (head_right c.args.newest (take c.in_ok-n.n (c.read_full.new.into ++ drop 17 c.args.buffer.now)))

pub returns-clause-idle : goal.returns-clause-idle
returns-clause-idle g c tells =
    let file = part c.args.file (g.D.Disk.seen c.args.disk.now) in
    c.idle_kind.ensures
    ∙ ap idle_of (front_read c.in_ok-n.n c.read_full.new.into (drop 17 c.args.buffer.now) file
    (omega (arith, length-take-le 17 c.args.buffer.now (omega (arith, c.requires)))) c.in_ok-n.ensures.bound
    (c.in_ok-n.ensures.bytes tells))
    ∙ idle_of-take file
