use Rattle.std.proofs.Common.{is_ok}
use Rattle.skk_disk.specs.declared.made_call.MadeCall.TheVariants.{TornWrite}
use Rattle.skk_disk.proofs.CallSteps.{may_stay, seen_torn_write}
use Rattle.skk_disk.proofs.call_record.CallRecord.torn_write.Goals as goal

pub invariant_of-self-inside : goal.invariant_of-self-inside
invariant_of-self-inside c = (
  may_stay (is_ok c.push.result) (TornWrite c.args.file c.args.at c.args.count) c.self.inside.made.items
      c.push.new.self.items c.self.inside.contents (λ disk. seen_torn_write c.args.file disk c.args.at c.args.count)
      c.self.inside.is c.push.ensures.items,
  tt,
)
