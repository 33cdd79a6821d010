use Rattle.std.proofs.Common.{◌++◌, ◌∙◌, sym, ap}
use Rattle.skk_text.specs.KeyText.{spell}
use Rattle.skk_text.proofs.KeySpelling.{spelled_more}
use Rattle.skk_text.proofs.key_text.print_keys.Goals as goal

pub loop-place-preserved : goal.loop-place-preserved
loop-place-preserved c =
    c.in_ok-push_key.ensures
    ∙ (ap (λ bs. bs ++ spell c.at.result.now) c.loop-place.invariant
    ∙ sym (spelled_more c.args.keys.now c.loop-place.place c.at.result.now c.at.ensures))
