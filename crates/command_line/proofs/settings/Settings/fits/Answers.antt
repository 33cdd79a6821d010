use Rattle.std.proofs.Common.{◌==◌, ◌∙◌, ap, refl, length, get_or, arith, inl, inr}
use Rattle.std.proofs.lemmas.List.{get_or_default}
use Rattle.command_line.specs.declared.argument.Argument.TheVariants.{File}
use Rattle.command_line.proofs.SettingLists.{one_more_row, all_rows, row-broken}
use Rattle.command_line.proofs.settings.Settings.fits.Goals as goal
use Rattle.command_line.proofs.settings.Settings.fits.Goals.{then-times-least-via-then-times-least}
use Rattle.command_line.proofs.settings.Settings.fits.Goals.{then-times-least-via-else-times-least+then-most-times}

pub loop-argument-init : goal.loop-argument-init
loop-argument-init c = record { kept = record { all = refl; sum = refl }; small = omega arith }

pub loop-argument-preserved : goal.loop-argument-preserved
loop-argument-preserved c =
    let place = c.loop-argument.argument-index in
    let row = get_or c.args.rows.now place (File, 0, 0) in
    record {
      kept =
          one_more_row c.args.self.now c.args.rows.now place c.loop-argument.counted c.times-times.result row
          c.loop-argument.invariant.kept c.loop-argument-test.true
          (get_or_default c.args.rows.now place row (File, 0, 0) c.loop-argument-test.true) c.times-times.ensures.value
          c.if-times-least.false c.if-most-times.false;
      small = omega (arith, c.loop-argument.invariant.small);
    }

pub returns-then-times-least : goal.returns-then-times-least
returns-then-times-least c =
    let place = c.loop-argument.argument-index in
    let row = get_or c.args.rows.now place (File, 0, 0) in
    row-broken c.args.self.now c.args.rows.now place row c.loop-argument-test.true
    (get_or_default c.args.rows.now place row (File, 0, 0) c.loop-argument-test.true)
    (elim c.then-times-least.branch [
      | then-times-least-via-then-times-least w ↦
          inl (omega (arith, w.if-times-least.true, c.times-times.ensures.value))
      | then-times-least-via-else-times-least+then-most-times w ↦
          inr (omega (arith, w.if-most-times.true, c.times-times.ensures.value))
    ])

pub returns : goal.returns
returns c =
    ap (λ n. c.loop-argument.counted == n) (c.len.ensures.value ∙ ap length c.self.view_is)
    ∙ all_rows c.args.self.now c.args.rows.now c.loop-argument.argument-index c.loop-argument.counted
    c.loop-argument.invariant.kept (omega arith)
