use Rattle.std.proofs.Common.{◌≡◌, true, List, ℕ, ◌++◌, ◌∙◌, ap, subst, sym}
use Rattle.std.specs.List.{flat_map, list_all}
use Rattle.skk_calls.specs.Canonical.{is_good}
use Rattle.skk_calls.specs.Rows.{Row}
use Rattle.learn_index.specs.Kept.{numbered}
use Rattle.learned_store.specs.Compacted.{row_forms}
use Rattle.learned_store.specs.Compacting.{form_record}
use Rattle.learned_store.proofs.BookRecords.{changed_book, has_count, rows_good}
use Rattle.learned_store.proofs.compacting.push_book.Goals as goal

pub push_rows-requires : goal.push_rows-requires
push_rows-requires c =
    subst (λ (rows : List Row). list_all is_good rows ≡ true) (sym c.deref.ensures.value)
    (rows_good (numbered c.args.book.now) (c.requires (has_count c.args.book.now.count c.if-book-eq0.false)))

pub returns-in_ok-push_rows : goal.returns-in_ok-push_rows
returns-in_ok-push_rows c =
    c.in_ok-push_rows.ensures
    ∙ ap (λ (rows : List Row). c.args.records.now.items
    ++ flat_map form_record (row_forms c.args.book.now.number c.args.book.now.count rows)) c.deref.ensures.value
    ∙ ap (λ (l : List ℕ). c.args.records.now.items ++ l) (changed_book c.args.book.now c.if-book-eq0.false)
