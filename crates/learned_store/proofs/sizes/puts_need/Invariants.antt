use Rattle.std.proofs.Common.{◌≡◌, take}
use Rattle.std.specs.List.{sum_by}
use Rattle.skk_calls.specs.Histories.{put_need}
use Rattle.learned_store.specs.Compacting.{capped}
use Rattle.learned_store.proofs.sizes.puts_need.Given as goal

-- what the rows so far need was added
abbrev pub invariant-loop-row : goal.invariant-loop-row
invariant-loop-row l = l.bytes ≡ capped (sum_by put_need (take l.row-index l.rows))
