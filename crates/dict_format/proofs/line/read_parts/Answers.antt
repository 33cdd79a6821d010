use Rattle.std.proofs.Common.{◌≡◌, map, subst, Ok}
use Rattle.dict_format.specs.Reading.{fit_items_at}
use Rattle.dict_format.specs.Views.{item_said, texts_seen}
use Rattle.dict_format.proofs.RowsRead.{row_read}
use Rattle.dict_format.proofs.line.read_parts.Goals as goal

pub some_row-requires : goal.some_row-requires
some_row-requires c =
    let items = map item_said c.in_ok-items.items.items in
    row_read c.args.part _ _ c.in_ok-key.key items c.in_ok-key.ensures.valid.0 c.in_ok-key.ensures.valid.1
    c.in_ok-texts.ensures
    (subst (λ texts. fit_items_at c.args.part (texts_seen texts) ≡ Ok items) c.deref.ensures.value
    c.in_ok-items.ensures)
