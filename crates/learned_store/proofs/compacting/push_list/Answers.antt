use Rattle.std.proofs.Common.{List, ℕ, ◌++◌, ◌∙◌, ap, subst, sym}
use Rattle.skk_journal.specs.Records.{IsSized, record_bytes}
use Rattle.learned_store.proofs.Sized.{list_sized}
use Rattle.learned_store.proofs.compacting.push_list.Goals as goal

pub push_record-requires : goal.push_record-requires
push_record-requires c =
    subst IsSized (sym (c.as_slice.ensures ∙ c.in_ok-payload.ensures.payload))
    (list_sized c.args.list.now.typist c.args.list.now.books c.len-count.ensures.valid)

pub returns : goal.returns
returns c =
    c.in_ok-push_record.ensures
    ∙ ap (λ (l : List ℕ). c.args.records.now.items ++ record_bytes l)
    (c.as_slice.ensures ∙ c.in_ok-payload.ensures.payload)
