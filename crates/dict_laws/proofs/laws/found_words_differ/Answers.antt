use Rattle.std.proofs.Common.{[]}
use Rattle.dict_laws.proofs.Seen.{first_differ}
use Rattle.skk_calls.specs.Found.{layers, cands_of_layers}
use Rattle.skk_calls.specs.Rows.{Cand}
use Rattle.dict_laws.proofs.laws.found_words_differ.Goals as goal

pub returns : goal.returns
returns c files state who key okuri =
    first_differ (λ (cand : Cand). cand.word) [] (cands_of_layers [] (layers files state who key) okuri)
