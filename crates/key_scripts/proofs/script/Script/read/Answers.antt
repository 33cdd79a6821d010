use Rattle.key_scripts.proofs.Reading.{none_read, one_more_text}
use Rattle.key_scripts.proofs.script.Script.read.Goals as goal

pub loop-text-init : goal.loop-text-init
loop-text-init c = none_read c.args.bytes.now _ c.new-lines.ensures

pub loop-text-preserved : goal.loop-text-preserved
loop-text-preserved c =
    let step = c.in-Some.ensures in
    one_more_text c.args.bytes.now c.loop-text.rest.now c.in-Some.text.now c.in-Some.behind.now c.loop-text.number
    c.loop-text.lines c.push_line.new.lines
    c.loop-text.named c.push_line.new.named c.loop-text.invariant step.0 step.1 c.in-Ok.ensures.marked
    c.in-Ok.ensures.ok
