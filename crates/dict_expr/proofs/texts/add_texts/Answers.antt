use Rattle.std.proofs.Common.{◌∙◌, ◌++◌, ℕ, List, ap}
use Rattle.std.specs.List.{fold}
use Rattle.std.proofs.lemmas.Result.{on_ok_weaker}
use Rattle.word_sets.specs.Firsts.{with_new}
use Rattle.dict_expr.proofs.KnownTexts.{known_left}
use Rattle.dict_expr.proofs.texts.add_texts.Goals as goal

pub returns : goal.returns
returns c =
    let others = c.args.others.now in
    on_ok_weaker c.add_unknown.result
    (λ added.
    added
    ∙ ap (λ texts. c.args.copies.now ++ texts)
    (known_left c.args.texts.now c.know_texts.new.known others
    (c.in_ok-know_texts.ensures
    ∙ ap (λ known. fold (with_new (λ (t : List ℕ). t)) known others) c.new-known.ensures)))
    c.add_unknown.ensures
