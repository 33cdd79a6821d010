-- The readings that a walk goes over, as the rows in order have them.
use Rattle.std.proofs.Common.{◌≡◌, ℕ, true, not, List, map, ap, ◌∙◌, arith}
use Rattle.std.specs.List.{filter}
use Rattle.std.specs.Option.{option_map}
use Rattle.skk_text.specs.FilterLaws.{filter-filter, filter-map, filter_same, find-map, find_same, list_all_kept}
use Rattle.skk_text.specs.PairsLaws.{all_pairs-filter, all_pairs-map, pairs_within}
use Rattle.skk_calls.specs.Completions.{ascending_readings, completes, goes_on_from, reading_of}
use Rattle.ordered_lists.specs.OrderLaws.{filter_sort, list_all-sort_by, sort-map}
use Rattle.ordered_lists.specs.Orders.{item_above, sort_by}
use Rattle.skk_calls.specs.OrderLaws.{row_keys, text_order}
use Rattle.skk_calls.specs.Orders.{key_less, plain_key, row_less, text_less}
use Rattle.skk_calls.specs.Rows.{Row, same_text, same_key, keys_differ, texts_differ}
use Rattle.skk_calls.specs.Walks.{next_above}
use Rattle.word_sets.specs.FirstLaws.{first_of_each-fresh, texts_stay}
use Rattle.dict_files.specs.WalkLaws.{texts_all_apart}
use Rattle.dict_files.specs.Walked.{is_walked, walked_readings}

-- the rows that a walk comes by are without okurigana, so their readings order them
less_by_reading : (row other : Row) → is_walked row ≡ true → is_walked other ≡ true
    → text_less (reading_of row) (reading_of other) ≡ row_less row other
less_by_reading row other e f = grind arith

-- and they differ in these
readings_apart : (row other : Row) → is_walked row ≡ true → is_walked other ≡ true
    → not (same_key row.key other.key) ≡ true → not (same_text (reading_of row) (reading_of other)) ≡ true
readings_apart row other e f differ = grind arith

walked_differ : (rows : List Row) → keys_differ rows ≡ true
    → texts_differ (map reading_of (filter is_walked rows)) ≡ true
walked_differ rows differ =
    let apart = λ (row other : Row). not (same_key row.key other.key) in
    all_pairs-map reading_of (λ text other. not (same_text text other)) (filter is_walked rows)
    ∙ pairs_within is_walked apart _ readings_apart (filter is_walked rows) (list_all_kept is_walked rows)
    (all_pairs-filter apart is_walked rows differ)

-- the readings that a walk goes over are those of its rows in order
pub walked_plain : (rows : List Row) → keys_differ rows ≡ true
    → walked_readings rows ≡ sort_by text_less (map reading_of (filter is_walked rows))
walked_plain rows differ =
    let readings = map reading_of (filter is_walked rows) in
    ap (sort_by text_less) (first_of_each-fresh (λ reading. reading) readings
    (ap texts_differ (texts_stay readings) ∙ walked_differ rows differ))

walked_in_order : (rows : List Row) → keys_differ rows ≡ true
    → walked_readings rows ≡ map reading_of (sort_by row_less (filter is_walked rows))
walked_in_order rows differ =
    walked_plain rows differ
    ∙ sort-map reading_of row_less text_less is_walked less_by_reading (filter is_walked rows)
    (list_all_kept is_walked rows)

-- those that go on from a prefix are the completions of the file
pub readings_complete : (prefix : List ℕ) (rows : List Row) → keys_differ rows ≡ true
    → filter (goes_on_from prefix) (walked_readings rows) ≡ ascending_readings prefix rows
readings_complete prefix rows differ =
    let readings = map reading_of (filter is_walked rows) in
    let goes_on = λ (row : Row). goes_on_from prefix (reading_of row) in
    ap (filter (goes_on_from prefix)) (walked_plain rows differ)
    ∙ filter_sort text_less text_order (goes_on_from prefix) readings
    (texts_all_apart readings (walked_differ rows differ))
    ∙ ap (sort_by text_less) (filter-map reading_of (goes_on_from prefix) (filter is_walked rows)
    ∙ ap (map reading_of) (filter-filter is_walked goes_on rows
    ∙ filter_same _ (completes prefix) (λ row. grind arith) rows))

-- of the rows that a walk comes by those with greater readings have greater keys
above_by_key : (low : List ℕ) (row : Row) → is_walked row ≡ true
    → text_less low (reading_of row) ≡ key_less (plain_key low) row.key
above_by_key low row e = grind arith

-- the next reading of a walk is that of the first row that it comes by whose key is greater
pub reading_found : (rows : List Row) (low : List ℕ) → keys_differ rows ≡ true
    → next_above (walked_readings rows) low
    ≡ option_map reading_of (item_above (λ (row : Row). row.key) row_keys (plain_key low)
    (sort_by row_less (filter is_walked rows)))
reading_found rows low differ =
    let walked = sort_by row_less (filter is_walked rows) in
    ap (λ readings. next_above readings low) (walked_in_order rows differ)
    ∙ find-map reading_of (text_less low) walked
    ∙ ap (option_map reading_of)
    (find_same _ (λ row. key_less (plain_key low) row.key) is_walked (above_by_key low) walked
    (list_all-sort_by row_less is_walked (filter is_walked rows) (list_all_kept is_walked rows)))
