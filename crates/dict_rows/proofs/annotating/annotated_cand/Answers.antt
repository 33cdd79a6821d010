use Rattle.skk_calls.specs.KeyLaws.{same_equal}
use Rattle.dict_rows.proofs.annotating.annotated_cand.Goals as goal

pub returns-then-annotates : goal.returns-then-annotates
returns-then-annotates c =
    rw (c.if-annotates.true, same_equal c.args.other.now.word c.args.cand.now.word (c.requires c.if-annotates.true))
    c.copy.ensures
