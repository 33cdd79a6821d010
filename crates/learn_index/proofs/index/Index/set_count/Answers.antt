use Rattle.std.proofs.Common.{◌∙◌, ap, sym, arith}
use Rattle.std.proofs.lemmas.Bool.{le-leb}
use Rattle.skk_calls.specs.States.{count_of, is_valid}
use Rattle.learn_index.specs.Index.{Index}
use Rattle.learn_index.specs.Records.{state_counted}
use Rattle.learn_index.proofs.Planned.{count_valid}
use Rattle.learn_index.proofs.index.Index.set_count.Goals as goal

pub give_count-requires-clause-valid : goal.give_count-requires-clause-valid
give_count-requires-clause-valid c =
    let before = ap (λ (index : Index). is_valid index.state) (sym c.self.view_is) ∙ c.self.invariant.valid in
    ap (λ state. is_valid (state_counted state c.args.book c.args.count)) c.in_ok-make_book.ensures.state
    ∙ count_valid c.args.self.now.state c.args.book c.args.count before (omega (arith, c.if-count-gt0.true))
    (le-leb (count_of c.args.self.now.state c.args.book) c.args.count c.requires)
