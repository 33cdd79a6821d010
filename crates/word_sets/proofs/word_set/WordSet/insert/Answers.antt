use Rattle.std.proofs.Common.{◌∙◌, ap, map, not}
use Rattle.skk_calls.specs.Rows.{has_text}
use Rattle.word_sets.specs.FirstLaws.{with_new-map}
use Rattle.word_sets.specs.Firsts.{with_new}
use Rattle.word_sets.specs.Strings.{characters}
use Rattle.word_sets.proofs.word_set.WordSet.insert.Goals as goal

pub returns-clause-ok : goal.returns-clause-ok
returns-clause-ok c =
    ap (map (λ pair. pair.0)) c.in_ok-is_new.ensures.ok
    ∙ with_new-map (λ pair. pair.0) (λ text. text) c.self.inside.words (characters c.args.word, tt)
    ∙ ap (λ texts. with_new (λ text. text) texts (characters c.args.word)) c.self.view_is

pub returns-clause-is_new : goal.returns-clause-is_new
returns-clause-is_new c =
    c.in_ok-is_new.ensures.is_new ∙ ap (λ texts. not (has_text texts (characters c.args.word))) c.self.view_is
