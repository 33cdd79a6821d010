use Rattle.std.proofs.Common.{◌∙◌, Some, ap, sym}
use Rattle.std.proofs.lemmas.Bool.{le-leb}
use Rattle.skk_calls.specs.States.{count_of, is_valid, state_with}
use Rattle.learn_index.specs.Index.{Index}
use Rattle.learn_index.proofs.Planned.{put_valid, some_count}
use Rattle.learn_index.proofs.index.Index.put.Goals as goal

pub set_row-requires-clause-valid : goal.set_row-requires-clause-valid
set_row-requires-clause-valid c =
    let before = ap (λ (index : Index). is_valid index.state) (sym c.self.view_is) ∙ c.self.invariant.valid in
    ap (λ state. is_valid (state_with state c.args.book c.args.count c.args.row.key (Some c.args.row)))
    c.in_ok-make_room.ensures.state
    ∙ put_valid c.args.self.now.state c.args.book c.args.count c.args.row before
    (le-leb (count_of c.args.self.now.state c.args.book) c.args.count c.requires.count)
    c.requires.row

pub set_row-requires-clause-count : goal.set_row-requires-clause-count
set_row-requires-clause-count c =
    some_count c.make_room.new.self.state c.args.book c.args.count c.args.row.key (Some c.args.row)
    (set_row-requires-clause-valid c)
