use Rattle.skk_text.specs.TextLaws.{chars-encode}
use Rattle.skk_text.proofs.text.Text.push.Goals as goal

pub returns-clause-ok : goal.returns-clause-ok
returns-clause-ok c = rw (← chars-encode c.args.c c.ranges.c.0, ← c.encode_utf8.ensures.value) c.push_str.ensures.ok
