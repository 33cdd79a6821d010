use Rattle.std.proofs.Common.{◌∙◌, ap, map}
use Rattle.std.specs.List.{list_all}
use Rattle.word_sets.specs.Firsts.{with_new}
use Rattle.word_sets.specs.WordRefs.{characters_at, is_encoded}
use Rattle.word_sets.proofs.RefSets.{inserted, inserted_encoded}
use Rattle.word_sets.proofs.word_refs.WordRefs.insert.Goals as goal

pub invariant_of-self-2 : goal.invariant_of-self-2
invariant_of-self-2 c =
    ap (list_all is_encoded) c.in_ok-insert.ensures.keys
    ∙ inserted_encoded c.self.inside.words.keys c.as_str.result c.args.word.now c.self.invariant c.as_str.ensures.value
    c.as_str.ensures.characters

pub returns-clause-ok : goal.returns-clause-ok
returns-clause-ok c =
    ap (map characters_at) c.in_ok-insert.ensures.keys
    ∙ inserted c.self.inside.words.keys c.as_str.result c.args.word.now c.self.invariant c.as_str.ensures.value
    c.as_str.ensures.characters
    ∙ ap (λ texts. with_new (λ text. text) texts c.args.word.now) c.self.view_is
