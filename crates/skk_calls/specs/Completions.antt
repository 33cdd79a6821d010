-- The readings that go on from a prefix.
use Rattle.std.specs.Prelude.{ℕ, Bool, ◌&&◌, ◌==◌, not, nat_eq, if◌then◌else◌, List, [], ◌++◌, map, take}
use Rattle.std.specs.List.{filter, flat_map, starts_with}
use Rattle.skk_calls.specs.declared.part.Part.TheVariants.{Nasi}
use Rattle.skk_text.specs.Lists.{is_empty}
use Rattle.skk_calls.specs.Found.{first_of_each}
use Rattle.skk_calls.specs.Orders.{sort_by, is_newer, text_less}
use Rattle.skk_calls.specs.Rows.{Row, same_text, same_part}
use Rattle.skk_calls.specs.States.{State, books_read, rows_of}

-- a reading begins with a prefix and differs from it
abbrev pub goes_on_from : List ℕ → List ℕ → Bool
goes_on_from prefix reading = starts_with nat_eq reading prefix && not (same_text reading prefix)

-- a row completes a prefix: it has a candidate and no okurigana, and its reading goes on from the prefix
abbrev pub completes : List ℕ → Row → Bool
completes prefix row =
    same_part row.key.part Nasi && (not (is_empty row.cands) && goes_on_from prefix row.key.reading)

-- the reading of a row
abbrev pub reading_of : Row → List ℕ
reading_of row = row.key.reading

-- the readings of the rows of a book that complete a prefix, the newest first
abbrev pub newest_readings : List ℕ → List Row → List (List ℕ)
newest_readings prefix rows = map reading_of (sort_by is_newer (filter (completes prefix) rows))

-- the readings of the rows of a file that complete a prefix, ascending by their bytes
abbrev pub ascending_readings : List ℕ → List Row → List (List ℕ)
ascending_readings prefix rows = sort_by text_less (map reading_of (filter (completes prefix) rows))

-- the most readings that are given
abbrev pub completion_limit : ℕ
completion_limit = 256

-- the readings that complete a prefix in each book that the typist reads, and in each system file, in order
abbrev pub all_readings : List (List Row) → State → ℕ → List ℕ → List (List ℕ)
all_readings files state who prefix =
    flat_map (λ number. newest_readings prefix (rows_of state number)) (books_read state who)
    ++ flat_map (ascending_readings prefix) files

-- what a completion gives: the first of each of these readings, up to the most that are given
abbrev pub completions : List (List Row) → State → ℕ → List ℕ → List (List ℕ)
completions files state who prefix =
    take completion_limit (first_of_each (λ reading. reading) [] (all_readings files state who prefix))
