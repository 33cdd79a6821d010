use Rattle.skk_disk.proofs.CallSteps.{cut_goes_on}
use Rattle.skk_disk.proofs.call_record.CallRecord.cut.Goals as goal

pub invariant_of-self-inside-2 : goal.invariant_of-self-inside-2
invariant_of-self-inside-2 c = (
  cut_goes_on c.args.file c.args.len c.self.inside.made.items c.add.new.made.items c.self.inside.contents
      c.cut.new.self c.self.inside.is (rw c.reserve.ensures.items at c.add.ensures.items) c.cut.ensures,
  tt,
)
