-- A look-up and a completion see of a state the rows of the books that the typist reads.
use Rattle.std.proofs.Common.{◌≡◌, ◌==◌, ◌++◌, ◌∷◌, ℕ, not, All, Option, List, [], refl, ap, ◌∙◌, take}
use Rattle.std.proofs.lemmas.List.Elements.{All-weaker}
use Rattle.std.specs.List.{filter, filter_map, flat_map}
use Rattle.skk_calls.specs.Completions.{ascending_readings, completion_limit, completions, newest_readings}
use Rattle.skk_calls.specs.Found.{first_of_each, found, merged}
use Rattle.skk_calls.specs.Rows.{RowKey, Row}
use Rattle.skk_calls.specs.States.{State, books_read, row_at, row_in, rows_of, shared_books}
use Rattle.dict_laws.specs.Filtered.{filter_map_alike, flat_map_alike}

-- the rows of a book are the same in two states
abbrev pub SameRows : State → State → ℕ → Type 0
SameRows state other number = rows_of other number ≡ rows_of state number

module _ (files : List (List Row)) (state other : State) (who : ℕ)
    (lists : shared_books other who ≡ shared_books state who)
    (rows : All (SameRows state other) (books_read state who)) where
  -- the books that are read
  pub read_alike : books_read other who ≡ books_read state who
  read_alike = ap (λ books. who ∷ filter (λ number. not (number == who)) books) lists

  -- what a look-up finds
  pub found_alike : (key : RowKey) (okuri : Option (List ℕ))
      → found files other who key okuri ≡ found files state who key okuri
  found_alike key okuri =
      ap (λ own. merged (own ++ filter_map (row_in key) files) okuri)
      (ap (λ books. filter_map (λ number. row_at other number key) books) read_alike
      ∙ filter_map_alike (λ number. row_at other number key) (λ number. row_at state number key)
      (books_read state who)
      (All-weaker (SameRows state other) (λ number. row_at other number key ≡ row_at state number key)
      (λ number same. ap (row_in key) same) (books_read state who) rows))

  -- what a completion gives
  pub completions_alike : (prefix : List ℕ)
      → completions files other who prefix ≡ completions files state who prefix
  completions_alike prefix =
      ap (λ own. take completion_limit (first_of_each (λ reading. reading) []
      (own ++ flat_map (ascending_readings prefix) files)))
      (ap (λ books. flat_map (λ number. newest_readings prefix (rows_of other number)) books) read_alike
      ∙ flat_map_alike (λ number. newest_readings prefix (rows_of other number))
      (λ number. newest_readings prefix (rows_of state number)) (books_read state who)
      (All-weaker (SameRows state other)
      (λ number. newest_readings prefix (rows_of other number) ≡ newest_readings prefix (rows_of state number))
      (λ number same. ap (newest_readings prefix) same) (books_read state who) rows))
