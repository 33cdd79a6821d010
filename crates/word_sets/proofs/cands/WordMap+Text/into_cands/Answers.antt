use Rattle.std.proofs.Common.{◌∙◌, ap, map}
use Rattle.std.specs.List.{list_all}
use Rattle.std.proofs.lemmas.Simd.{map-map}
use Rattle.skk_calls.specs.Rows.{Cand, is_cand, texts_differ}
use Rattle.word_sets.specs.Strings.{as_cand}
use Rattle.word_sets.proofs.cands.WordMap+Text.into_cands.Goals as goal

pub loop-word-init : goal.loop-word-init
loop-word-init c =
    let given = c.into_iter-word-iterator.ensures.into_iter_gives in
    record {
      all = rw c.new-cands.ensures (ap (map as_cand) given.0);
      valid = ap (λ pairs. list_all is_cand (map as_cand pairs)) given.0 ∙ c.requires;
      differ = ap texts_differ (map-map (λ (cand : Cand). cand.word) as_cand c.args.self) ∙ given.1;
    }
