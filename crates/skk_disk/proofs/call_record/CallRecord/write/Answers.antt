use Rattle.std.proofs.Common.{◌≡◌, rules}
use Rattle.skk_disk.proofs.CallSteps.{write_goes_on}
use Rattle.skk_disk.proofs.call_record.CallRecord.write.Goals as goal

pub invariant_of-self-inside-2 : goal.invariant_of-self-inside-2
invariant_of-self-inside-2 c =
    let same : c.of-bytes.result ≡ c.args.from.now = search rules in (
      write_goes_on c.args.file c.args.at c.of-bytes.result c.args.from.now c.self.inside.made.items
          c.add.new.made.items c.self.inside.contents c.write.new.self same c.self.inside.is
          (rw c.reserve.ensures.items at c.add.ensures.items) c.in_ok-write.ensures.ok,
      tt,
    )
