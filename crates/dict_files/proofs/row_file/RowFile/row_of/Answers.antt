use Rattle.std.proofs.Common.{◌∙◌, ap}
use Rattle.skk_calls.specs.States.{row_in}
use Rattle.dict_files.proofs.row_file.RowFile.row_of.Goals as goal

pub returns : goal.returns
returns c =
    c.item_of.ensures c.self.inside.book
    (rw (c.as_slice.ensures, c.rows.ensures.value) c.self.invariant.0.keys)
    ∙ ap (row_in c.args.key.now) c.self.view_is
