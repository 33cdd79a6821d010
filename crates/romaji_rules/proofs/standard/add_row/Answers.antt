use Rattle.std.proofs.Common.{codes, arith}
use Rattle.std.specs.Str.{chars}
use Rattle.romaji_rules.proofs.Rows.{row_step}
use Rattle.romaji_rules.proofs.standard.add_row.Goals as goal

pub loop-place-preserved : goal.loop-place-preserved
loop-place-preserved c =
    row_step c.args.before.now (chars c.args.stem.now) (codes "aiueo") c.args.endings.now c.loop-place.place _ _
    (omega arith) (omega arith)
    c.args.rules.now.items c.loop-place.rules.items c.push.new.self.items c.in_ok-rule.field-0 c.as_bytes.result.now
    c.in_ok-input.input
    c.loop-place.invariant c.in_ok-push.ensures.items c.in_ok-rule.ensures c.in_ok-input.ensures
    c.as_bytes.ensures.value
