use Rattle.std.proofs.Common.{◌≡◌, take}
use Rattle.std.specs.List.{All}
use Rattle.skk_journal.specs.Records.{framed}
use Rattle.batch_store.specs.Groups.{PutsCharacters, PutsHeld, put_payloads}
use Rattle.batch_store.proofs.group_records.group_records.Given as goal

-- the records of the plans so far were written, and what they put is as it was told
abbrev pub invariant-loop-plan : goal.invariant-loop-plan
invariant-loop-plan l = record {
  written : l.records.items ≡ framed (put_payloads (take l.plan-index l.plans));
  characters : All PutsCharacters (take l.plan-index l.plans);
  held : All PutsHeld (take l.plan-index l.plans);
}
