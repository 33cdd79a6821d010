-- The readings that a walk goes over ascend.
use Rattle.std.proofs.Common.{◌≡◌, ℕ, true, not, List, [], ◌∷◌, map, refl, sym, ap, ◌∙◌, arith}
use Rattle.std.specs.List.{filter}
use Rattle.std.proofs.lemmas.Bool.{and_from, not-true}
use Rattle.skk_text.specs.PairsLaws.{pairs_weaker}
use Rattle.skk_calls.specs.Completions.{reading_of}
use Rattle.skk_calls.specs.Found.{first_of_each}
use Rattle.ordered_lists.specs.OrderLaws.{apart, sort_ascends}
use Rattle.skk_calls.specs.OrderLaws.{text_order, texts_apart}
use Rattle.skk_calls.specs.Orders.{text_less}
use Rattle.skk_calls.specs.Rows.{Row, same_text, texts_differ}
use Rattle.skk_calls.specs.Walks.{all_ascend, texts_ascend}
use Rattle.skk_text.specs.Pairs.{all_pairs}
use Rattle.word_sets.specs.FirstLaws.{first_of_each-differ, texts_stay}
use Rattle.dict_files.specs.Walked.{is_walked, walked_readings}

-- of texts that differ always one is less
pub texts_all_apart : (texts : List (List ℕ)) → texts_differ texts ≡ true → all_pairs (apart text_less) texts ≡ true
texts_all_apart texts differ =
    pairs_weaker (λ text other. not (same_text text other)) (apart text_less)
    (λ text other e. texts_apart text other (not-true (same_text text other) e)) texts differ

-- the readings of a file ascend
pub walked_ascend : (rows : List Row) → texts_ascend (walked_readings rows) ≡ true
walked_ascend rows =
    let readings = map reading_of (filter is_walked rows) in
    let firsts = first_of_each (λ reading. reading) [] readings in
    sort_ascends text_less text_order firsts
    (texts_all_apart firsts
    (ap texts_differ (sym (texts_stay firsts)) ∙ first_of_each-differ (λ reading. reading) readings))

-- in each file
pub all_walked_ascend : (files : List (List Row)) → all_ascend (map walked_readings files) ≡ true
all_walked_ascend [] = refl
all_walked_ascend (rows ∷ files) = grind (arith, walked_ascend rows, all_walked_ascend files)
