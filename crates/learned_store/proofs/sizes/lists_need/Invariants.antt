use Rattle.std.proofs.Common.{◌≡◌, take}
use Rattle.std.specs.List.{sum_by}
use Rattle.skk_calls.specs.Histories.{list_need}
use Rattle.learned_store.specs.Compacting.{capped}
use Rattle.learned_store.proofs.sizes.lists_need.Given as goal

-- what the lists so far need was added
abbrev pub invariant-loop-list : goal.invariant-loop-list
invariant-loop-list l = l.bytes ≡ capped (sum_by (λ list. list_need list.books) (take l.list-index l.lists))
