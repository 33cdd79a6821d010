use Rattle.std.proofs.Common.{ℕ, List, [], ◌∙◌, ap, sym, not, length-take, arith}
use Rattle.skk_text.specs.PairsLaws.{list_all-take, all_pairs-take}
use Rattle.skk_calls.specs.Completions.{completion_limit, all_readings, goes_on_from}
use Rattle.skk_calls.specs.Found.{first_of_each}
use Rattle.skk_calls.specs.Rows.{same_text, texts_differ}
use Rattle.dict_laws.proofs.GoingOn.{all_readings_go_on}
use Rattle.dict_laws.proofs.Seen.{first_differ, list_all-first_of_each, map-itself}
use Rattle.dict_laws.proofs.laws.completions_go_on_and_differ.Goals as goal

-- the first of each reading
abbrev firsts : List (List ℕ) → List (List ℕ)
firsts readings = first_of_each (λ reading. reading) [] readings

pub returns-clause-few : goal.returns-clause-few
returns-clause-few c files state who prefix =
    omega (arith, length-take completion_limit (firsts (all_readings files state who prefix)))

pub returns-clause-differ : goal.returns-clause-differ
returns-clause-differ c files state who prefix =
    let readings = all_readings files state who prefix in
    all_pairs-take (λ text other. not (same_text text other)) completion_limit (firsts readings)
    (ap texts_differ (sym (map-itself (firsts readings))) ∙ first_differ (λ reading. reading) [] readings)

pub returns-clause-go_on : goal.returns-clause-go_on
returns-clause-go_on c files state who prefix =
    let readings = all_readings files state who prefix in
    list_all-take (goes_on_from prefix) completion_limit (firsts readings)
    (list_all-first_of_each (λ reading. reading) (goes_on_from prefix) [] readings
    (all_readings_go_on files state who prefix))
