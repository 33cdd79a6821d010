use Rattle.std.proofs.Common.{◌≡◌, ◌∙◌, ap, arith, sym, Ordering}
use Rattle.std.specs.Cmp.Lexicographic.{slice_cmp}
use Rattle.std.specs.Ordering.{is_lt, is_eq, is_gt, nat_cmp, ordering_reverse}
use Rattle.std.proofs.lemmas.Cmp.{nat_list_cmp_total}
use Rattle.std.proofs.lemmas.Map.Text.{is_eq-slice_cmp}
use Rattle.ordered_lists.proofs.bytes.order_bytes.Goals as goal

pub returns-clause-same : goal.returns-clause-same
returns-clause-same c = ap is_eq c.cmp.ensures ∙ is_eq-slice_cmp c.args.bytes.now c.args.other.now

reversed : (order : Ordering) → is_lt (ordering_reverse order) ≡ is_gt order
reversed order = grind arith

pub returns-clause-greater : goal.returns-clause-greater
returns-clause-greater c =
    let bytes = c.args.bytes.now in
    let other = c.args.other.now in
    ap is_gt c.cmp.ensures
    ∙ sym (ap is_lt (nat_list_cmp_total.antisymm other bytes) ∙ reversed (slice_cmp nat_cmp bytes other))
