use Rattle.std.proofs.Common.{◌≡◌, true, ◌++◌, ◌∙◌, ap, subst, sym}
use Rattle.skk_calls.specs.Canonical.{is_good}
use Rattle.skk_calls.specs.Rows.{Row}
use Rattle.learned_store.specs.declared.form.PayloadForm.TheVariants.{Put}
use Rattle.learned_store.specs.Compacting.{form_record}
use Rattle.learned_store.proofs.BookRecords.{holds_at, piece_added}
use Rattle.learned_store.proofs.compacting.push_puts.Goals as goal

pub push_put-requires : goal.push_put-requires
push_put-requires c =
    subst (λ (row : Row). is_good row ≡ true) (sym c.row.ensures.value)
    (holds_at is_good c.args.rows.now c.loop-row.row-index c.row-item.result c.loop-row-test.true c.row-item.is
    c.requires)

pub loop-row-preserved : goal.loop-row-preserved
loop-row-preserved c =
    piece_added (Put c.args.book c.args.count) form_record c.args.rows.now c.loop-row.row-index c.row-item.result
    c.args.records.now.items c.loop-row.records.items c.push_put.new.records.items c.loop-row-test.true c.row-item.is
    c.loop-row.invariant
    (c.in_ok-push_put.ensures.records
    ∙ ap (λ (row : Row). c.loop-row.records.items ++ form_record (Put c.args.book c.args.count row))
    c.row.ensures.value)
