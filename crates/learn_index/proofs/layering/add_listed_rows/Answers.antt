use Rattle.std.proofs.Common.{arith}
use Rattle.std.proofs.lemmas.Grind.{common_steps}
use Rattle.std.proofs.lemmas.List.Elements.{filter_map-append}
use Rattle.learn_index.proofs.layering.add_listed_rows.Goals as goal
use Rattle.learn_index.proofs.layering.add_listed_rows.Goals.{then-number-who+in_ok-add_row, else-number-who}

pub loop-number-preserved : goal.loop-number-preserved
loop-number-preserved c =
    elim c.if-number-who.branch [
      | then-number-who+in_ok-add_row w ↦ grind (arith, common_steps, filter_map-append, w.rows-is)
      | else-number-who w ↦ grind (arith, common_steps, filter_map-append, w.rows-is)
    ]
