use Rattle.std.proofs.Common.{◌∙◌, ap, map, sym}
use Rattle.skk_calls.specs.Rows.{texts_differ}
use Rattle.word_sets.specs.Strings.{worded}
use Rattle.word_sets.proofs.WordMaps.{words_differ}
use Rattle.word_sets.proofs.word_map.WordMapIntoIterator.into_iter.Goals as goal

pub returns : goal.returns
returns g c =
    let given = c.into_iter.ensures.into_iter_gives in
    record {
      into_iter_gives = (
        ap (map worded) given.0 ∙ c.self.view_is,
        ap (λ pairs. texts_differ (map (λ pair. pair.0) pairs)) (sym c.self.view_is)
            ∙ words_differ c.self.inside.values.entries given.4,
      );
    }
