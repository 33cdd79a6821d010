use Rattle.std.proofs.Common.{List, ℕ, ◌++◌, ◌∙◌, ap, subst, sym}
use Rattle.skk_journal.specs.Records.{IsSized, record_bytes}
use Rattle.learned_store.proofs.BookRecords.{put_sized}
use Rattle.learned_store.proofs.compacting.push_put.Goals as goal

pub push_record-requires : goal.push_record-requires
push_record-requires c =
    subst IsSized (sym (c.as_slice.ensures ∙ c.in_ok-payload.ensures.payload))
    (put_sized c.args.book c.args.count c.args.row.now c.requires)

pub returns-clause-records : goal.returns-clause-records
returns-clause-records c =
    c.in_ok-push_record.ensures
    ∙ ap (λ (l : List ℕ). c.args.records.now.items ++ record_bytes l)
    (c.as_slice.ensures ∙ c.in_ok-payload.ensures.payload)
