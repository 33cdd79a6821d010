use Rattle.skk_disk.specs.declared.made_call.MadeCall.TheVariants.{Sync}
use Rattle.skk_disk.proofs.CallSteps.{read_stays, seen_sync}
use Rattle.skk_disk.proofs.call_record.CallRecord.sync.Goals as goal

pub invariant_of-self-inside-2 : goal.invariant_of-self-inside-2
invariant_of-self-inside-2 c = (
  read_stays (Sync c.args.file) c.self.inside.made.items c.add.new.made.items c.self.inside.contents
      (seen_sync c.args.file) c.self.inside.is (rw c.reserve.ensures.items at c.add.ensures.items),
  tt,
)
