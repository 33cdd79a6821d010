-- What a walk over the rows of a book, from the newest on, finds of those that complete a prefix.
use Rattle.std.proofs.Common.{◌≡◌, ℕ, ◌+◌, ◌-◌, ◌<◌, ◌≤◌, Bool, true, cond, Bor, Option, None, Some, List, []}
use Rattle.std.proofs.Common.{◌∷◌, ◌++◌, length, map, take, drop, reverse, get_or, refl, sym, ap, ◌∙◌}
use Rattle.std.specs.List.{filter}
use Rattle.std.specs.Option.{ForSome, IsSomeAnd}
use Rattle.std.proofs.lemmas.List.{get_or-reverse, take-append-drop, take-append-le, take-map}
use Rattle.std.proofs.lemmas.List.Elements.{filter-append, filter_more}
use Rattle.skk_calls.specs.Completions.{completes, completion_limit, newest_readings, reading_of}
use Rattle.skk_calls.specs.Rows.{Row}
use Rattle.skk_calls.specs.States.{rows_ascend}
use Rattle.learn_index.specs.Ages.{oldest_first}
use Rattle.learn_index.proofs.ByStamp.{newest_from_end}

-- the row that is read from the end
pub read_from_end : (stamps : List Row) (i : ℕ) (row : Row) → i < length stamps
    → row ≡ get_or stamps (length stamps - 1 - i) row → row ≡ get_or (reverse stamps) i row
read_from_end stamps i row low read = read ∙ sym (get_or-reverse stamps i row low)

module _ (p : Row → Bool) (rows : List Row) (i : ℕ) (found : List Row) where
  -- with the next row, where that passes, those are found that pass among one more
  pub next_found : (row : Row) → found ≡ filter p (take i rows) → i < length rows → row ≡ get_or rows i row
      → found ++ cond (p row) (row ∷ []) [] ≡ filter p (take (i + 1) rows)
  next_found row is low read =
      ap (λ those. those ++ cond (p row) (row ∷ []) []) is
      ∙ ap (λ (r : Row). filter p (take i rows) ++ cond (p r) (r ∷ []) []) read
      ∙ sym (filter_more p rows i row low)

  -- where as many are found as are wanted, these are the first of all
  pub enough_found : (count : ℕ) → found ≡ filter p (take i rows) → count ≤ length found
      → take count found ≡ take count (filter p rows)
  enough_found count is many =
      sym (ap (take count) (ap (filter p) (sym (take-append-drop i rows))
      ∙ filter-append p (take i rows) (drop i rows) ∙ ap (λ those. those ++ filter p (drop i rows)) (sym is))
      ∙ take-append-le count found (filter p (drop i rows)) many)

-- the readings of what was found are the newest of the book
pub walked : (prefix : List ℕ) (rows found : List Row) (by_stamp : Option (Bor (List Row))) → rows_ascend rows ≡ true
    → ForSome by_stamp (λ stamps. stamps.now ≡ oldest_first rows)
    → IsSomeAnd by_stamp
    (λ stamps. take completion_limit found ≡ take completion_limit (filter (completes prefix) (reverse stamps.now)))
    → take completion_limit (map reading_of found) ≡ take completion_limit (newest_readings prefix rows)
walked prefix rows found None ascending sorted is = absurd is
walked prefix rows found (Some stamps) ascending sorted is =
    let newest = filter (completes prefix) (reverse stamps.now) in
    take-map reading_of completion_limit found ∙ ap (map reading_of) is
    ∙ sym (take-map reading_of completion_limit newest)
    ∙ ap (λ (those : List Row). take completion_limit (map reading_of those))
    (newest_from_end prefix rows stamps.now ascending (sorted stamps refl))
