use Rattle.std.proofs.Common.{rules}
use Rattle.reading_state.proofs.Steps.{prefix_ended}
use Rattle.reading_state.proofs.reading.Reading.end_prefix.Goals as goal

pub returns-clause-some : goal.returns-clause-some
returns-clause-some c =
    prefix_ended c.args.rules.now c.args.self.now _ c.self.view_is c.in_ok-flushed.flushed.text
    c.in_ok-flushed.flushed.notice c.in_ok-flushed.ensures.flush
    c.in_ok-added.added.text c.push_str.new.self c.new-self-inside.result c.in_ok-added.added.notice (search rules)
    (search rules) c.in_ok-added.ensures.notice c.in_ok-added.ensures.text (search rules) (search rules)
