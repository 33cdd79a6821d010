use Rattle.std.proofs.Common.{◌∙◌, ◌++◌, ℕ, List, ap}
use Rattle.std.specs.List.{fold}
use Rattle.std.proofs.lemmas.Result.{on_ok_weaker}
use Rattle.skk_calls.specs.Rows.{words_of}
use Rattle.word_sets.specs.Firsts.{with_new}
use Rattle.dict_expr.proofs.KnownTexts.{known_hidden}
use Rattle.dict_expr.proofs.texts.add_cands.Goals as goal

pub returns : goal.returns
returns c =
    let words = words_of c.args.others.now in
    on_ok_weaker c.add_unknown_cands.result
    (λ added.
    added
    ∙ ap (λ cands. c.args.copies.now ++ cands)
    (known_hidden c.args.cands.now c.know_cands.new.known words
    (c.in_ok-know_cands.ensures
    ∙ ap (λ known. fold (with_new (λ (t : List ℕ). t)) known words) c.new-known.ensures)))
    c.add_unknown_cands.ensures
