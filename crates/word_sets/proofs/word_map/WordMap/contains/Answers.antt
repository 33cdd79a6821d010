use Rattle.std.proofs.Common.{◌∙◌, ap, is_some, map}
use Rattle.std.specs.Str.{chars}
use Rattle.skk_calls.specs.Rows.{has_text}
use Rattle.word_sets.specs.Strings.{words_in}
use Rattle.word_sets.proofs.WordMaps.{found, has_word}
use Rattle.word_sets.proofs.word_map.WordMap.contains.Goals as goal

pub returns : goal.returns
returns g c =
    let text = chars c.args.word.now in
    c.contains_key.ensures ∙ ap is_some (found c.args.word.now c.utf8.word c.self.inside.values.entries)
    ∙ has_word text (words_in c.self.inside.values)
    ∙ ap (λ words. has_text (map (λ pair. pair.0) words) text) c.self.view_is
