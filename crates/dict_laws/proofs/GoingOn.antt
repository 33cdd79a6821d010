-- Every completion goes on from its prefix.
use Rattle.std.proofs.Common.{◌≡◌, ◌∙◌, ℕ, true, ◌&&◌, List, map, not}
use Rattle.std.specs.List.{filter, flat_map, list_all}
use Rattle.std.proofs.lemmas.Bool.{and_parts, and_from}
use Rattle.std.proofs.lemmas.List.Folds.{list_all-append, list_all-map}
use Rattle.skk_text.specs.PairsLaws.{list_all-weaker}
use Rattle.skk_text.specs.FilterLaws.{list_all_kept}
use Rattle.skk_calls.specs.declared.part.Part.TheVariants.{Nasi}
use Rattle.skk_text.specs.Lists.{is_empty}
use Rattle.skk_calls.specs.Completions.{goes_on_from, completes, reading_of, newest_readings, ascending_readings}
use Rattle.skk_calls.specs.Completions.{all_readings}
use Rattle.ordered_lists.specs.OrderLaws.{list_all-sort_by}
use Rattle.ordered_lists.specs.Orders.{sort_by}
use Rattle.skk_calls.specs.Orders.{is_newer, text_less}
use Rattle.skk_calls.specs.Rows.{Row, same_part}
use Rattle.skk_calls.specs.States.{State, books_read, rows_of}
use Rattle.dict_laws.proofs.Seen.{list_all-flat_map}

-- the reading of a row that completes goes on from the prefix
pub completes_goes_on : (prefix : List ℕ) (row : Row) → completes prefix row ≡ true
    → goes_on_from prefix (reading_of row) ≡ true
completes_goes_on prefix row e =
    let rest =
    and_parts (same_part row.key.part Nasi) (not (is_empty row.cands) && goes_on_from prefix (reading_of row)) e in
    (and_parts (not (is_empty row.cands)) (goes_on_from prefix (reading_of row)) rest.1).1

-- so do the readings of all rows that complete
pub completing_go_on : (prefix : List ℕ) (rows : List Row)
    → list_all (λ row. goes_on_from prefix (reading_of row)) (filter (completes prefix) rows) ≡ true
completing_go_on prefix rows =
    list_all-weaker (completes prefix) (λ row. goes_on_from prefix (reading_of row)) (completes_goes_on prefix)
    (filter (completes prefix) rows) (list_all_kept (completes prefix) rows)

-- the readings of a book and of a file
pub newest_go_on : (prefix : List ℕ) (rows : List Row)
    → list_all (goes_on_from prefix) (newest_readings prefix rows) ≡ true
newest_go_on prefix rows =
    list_all-map (goes_on_from prefix) reading_of (sort_by is_newer (filter (completes prefix) rows))
    ∙ list_all-sort_by is_newer (λ row. goes_on_from prefix (reading_of row)) (filter (completes prefix) rows)
    (completing_go_on prefix rows)

pub ascending_go_on : (prefix : List ℕ) (rows : List Row)
    → list_all (goes_on_from prefix) (ascending_readings prefix rows) ≡ true
ascending_go_on prefix rows =
    list_all-sort_by text_less (goes_on_from prefix) (map reading_of (filter (completes prefix) rows))
    (list_all-map (goes_on_from prefix) reading_of (filter (completes prefix) rows) ∙ completing_go_on prefix rows)

-- so do the readings of the books and files
pub all_readings_go_on : (files : List (List Row)) (state : State) (who : ℕ) (prefix : List ℕ)
    → list_all (goes_on_from prefix) (all_readings files state who prefix) ≡ true
all_readings_go_on files state who prefix =
    let test = goes_on_from prefix in
    let own = flat_map (λ number. newest_readings prefix (rows_of state number)) (books_read state who) in
    let filed = flat_map (ascending_readings prefix) files in
    list_all-append test own filed
    ∙ and_from (list_all test own) (list_all test filed)
    (list_all-flat_map test (λ number. newest_readings prefix (rows_of state number))
    (λ number. newest_go_on prefix (rows_of state number)) (books_read state who))
    (list_all-flat_map test (ascending_readings prefix) (ascending_go_on prefix) files)
