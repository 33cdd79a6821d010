use Rattle.std.proofs.Common.{◌∙◌, None, ap, sym, arith}
use Rattle.std.proofs.lemmas.Bool.{le-leb}
use Rattle.skk_calls.specs.States.{count_of, is_valid, state_with}
use Rattle.learn_index.specs.Index.{Index}
use Rattle.learn_index.proofs.Planned.{drop_valid}
use Rattle.learn_index.proofs.index.Index.drop_row.Goals as goal

pub remove_row-requires-clause-valid : goal.remove_row-requires-clause-valid
remove_row-requires-clause-valid c =
    let before = ap (λ (index : Index). is_valid index.state) (sym c.self.view_is) ∙ c.self.invariant.valid in
    ap (λ state. is_valid (state_with state c.args.book c.args.count c.args.key.now None))
    c.in_ok-make_book.ensures.state
    ∙ drop_valid c.args.self.now.state c.args.book c.args.count c.args.key.now before
    (omega (arith, c.if-count-gt0.true)) (le-leb (count_of c.args.self.now.state c.args.book) c.args.count c.requires)
