use Rattle.skk_text.proofs.Characters.{chars-popped}
use Rattle.skk_text.proofs.content.pop_long.Goals as goal

pub returns : goal.returns
returns c =
    chars-popped c.args.text.now c.pop.new.self c.pop.result c.pop.ensures.bytes c.pop.ensures.none c.pop.ensures.bound
