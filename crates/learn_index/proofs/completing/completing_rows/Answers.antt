use Rattle.std.proofs.Common.{◌≡◌, ◌++◌, ◌∙◌, Bor, [], ap, arith, drop, map, sym}
use Rattle.std.specs.List.{filter}
use Rattle.std.proofs.lemmas.List.{append-nil, drop_all}
use Rattle.skk_calls.specs.Completions.{completes}
use Rattle.skk_calls.specs.Rows.{Row}
use Rattle.learn_index.proofs.NewestFirst.{begins, run_ends}
use Rattle.learn_index.proofs.completing.completing_rows.Goals as goal
use Rattle.learn_index.proofs.completing.completing_rows.Goals.{else-loop-kept-test}
use Rattle.learn_index.proofs.completing.completing_rows.Goals.{then-loop-kept-test+then-not-begins}

pub returns : goal.returns
returns c =
    let prefix = c.args.prefix.now in
    let rows = c.args.rows.now in
    let at = c.loop-kept.kept-index in
    let so_far = map (λ (row : Bor Row). row.now) c.loop-kept.completing.items in
    let ends : filter (completes prefix) (drop at rows) ≡ [] =
    elim c.loop-kept-test.branch [
      | else-loop-kept-test w ↦
          ap (filter (completes prefix)) (drop_all at rows (omega (arith, w.loop-kept-test.false)))
      | then-loop-kept-test+then-not-begins w ↦
          run_ends prefix rows at w.kept-item.result c.requires.ascend
          c.requires.high (omega (arith, w.loop-kept-test.true)) (sym w.kept-item.is)
          (ap (begins prefix) (sym w.row-row.ensures.value) ∙ sym w.begins.ensures ∙ w.if-not-begins.true)
    ]
    in
    sym (append-nil so_far) ∙ ap (λ rest. so_far ++ rest) (sym ends) ∙ c.loop-kept.invariant
