use Rattle.std.proofs.Common.{◌∙◌, rules}
use Rattle.std.proofs.lemmas.Iterator.{YieldsList-from_slice}
use Rattle.std.proofs.lemmas.Iterator.Search.{any_from_yields_List}
use Rattle.skk_calls.specs.Rows.{Cand, same_text}
use Rattle.dict_rows.proofs.Blocks.{word_among}
use Rattle.dict_rows.proofs.purging.has_cand.Goals as goal
use borrow.Author.Tests.{tests}

pub returns : goal.returns
returns c =
    let same = λ (cand : Cand). same_text c.args.word.now cand.word in
    any_from_yields_List same _ _ c.any.result c.any.ensures.ran (YieldsList-from_slice c.args.cands.now cc)
    (λ x b q k. search (rules, tests))
    ∙ word_among (same_text c.args.word.now) c.args.cands.now
