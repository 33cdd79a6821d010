use Rattle.run_endings.specs.PageLaws.{writes-through}
use Rattle.run_endings.proofs.page.write_through.Goals as goal

pub returns : goal.returns
returns g c =
    writes-through c.args.bytes.now c.flush.result c.in_ok-write.ensures c.flush.ensures.bytes c.flush.ensures.failed
    c.flush.ensures.counted
