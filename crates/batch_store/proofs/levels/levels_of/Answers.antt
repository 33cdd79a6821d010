use Rattle.std.proofs.Common.{◌≡◌, ◌-◌, ◌<◌, length, map, get_or, Bor, Global, List, Vec, ap, subst, ◌∙◌}
use Rattle.std.specs.List.{filter}
use Rattle.skk_calls.specs.declared.row.Row.{Row}
use Rattle.dict_format.specs.PrintedFiles.{in_printing_order}
use Rattle.batch_store.specs.Levels.{has_rank}
use Rattle.batch_store.proofs.LevelRows.{levels_more, next_level}
use Rattle.batch_store.proofs.levels.levels_of.Goals as goal
use Rattle.batch_store.proofs.levels.levels_of.Goals.{in-Some+in_ok-level-in-Some, in-None+in_ok-level-in-None}

-- the rows of a level
rows_in : Vec (Bor Row) Global → List Row
rows_in level = map (λ row. row.now) level.items

-- one level more: of the last one, or of all rows where there is none
pub loop-rank-preserved : goal.loop-rank-preserved
unfolding rows_in
loop-rank-preserved c =
    let printed : List Row = in_printing_order c.args.book.now in
    let ranked = λ (rows : List (Bor Row)). filter (has_rank c.loop-rank.rank) (map (λ row. row.now) rows) in
    let lent = c.deref-in-loop-rank.ensures.value in
    levels_more rows_in c.loop-rank.levels.items printed c.loop-rank.rank c.match-last.level c.push.new.self.items
    c.loop-rank.invariant c.in_ok-push.ensures.items (elim c.match-last.branch [
      | in-Some+in_ok-level-in-Some w ↦
          let last = w.in-Some.ensures.item in
          ap rows_in w.level-is ∙ w.in_ok-level-in-Some.ensures ∙ ap ranked w.deref-in-Some.ensures.value
          ∙ next_level rows_in c.loop-rank.levels.items printed c.loop-rank.rank w.in-Some.level.now
          c.loop-rank.invariant
          (subst (λ (levels : List (Vec (Bor Row) Global)). 0 < length levels) lent last.3.0)
          (subst (λ (levels : List (Vec (Bor Row) Global)).
          w.in-Some.level.now ≡ get_or levels (length levels - 1) w.in-Some.level.now) lent last.1)
      | in-None+in_ok-level-in-None w ↦
          ap rows_in w.level-is ∙ w.in_ok-level-in-None.ensures ∙ ap ranked w.deref-in-None.ensures.value
          ∙ ap (filter (has_rank c.loop-rank.rank)) c.in_ok-rows.ensures.order
    ])
