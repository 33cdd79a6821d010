use Rattle.std.proofs.Common.{◌≡◌, ◌∙◌, ◌++◌, ap, sym, subst, arith, true}
use Rattle.std.specs.List.{list_all}
use Rattle.skk_calls.specs.Rows.{is_row}
use Rattle.load_input.specs.Dictionary.{kana, row_of, rows_from}
use Rattle.load_input.proofs.Items.{all_at, flat_map_step}
use Rattle.load_input.proofs.dictionary.push_all.Goals as goal

pub push_rows-requires : goal.push_rows-requires
push_rows-requires c =
    subst (λ first. list_all (λ second. is_row (row_of first second)) kana ≡ true) (sym c.first-item.is)
    (all_at (λ first. list_all (λ second. is_row (row_of first second)) kana) c.args.firsts.now
    c.loop-first.first-index c.first-item.result (omega arith) c.requires)

pub loop-first-preserved : goal.loop-first-preserved
loop-first-preserved c =
    flat_map_step rows_from c.args.firsts.now c.loop-first.first-index c.first-item.result (omega arith)
    c.args.rows.now c.loop-first.rows
    c.push_rows.new.rows c.loop-first.invariant (c.in_ok-push_rows.ensures
    ∙ ap (λ first. c.loop-first.rows ++ rows_from first) c.first-item.is)
