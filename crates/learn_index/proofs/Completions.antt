-- What a completion is answered: the readings of books, of which the newest are enough, and of the walks over files.
use Rattle.std.proofs.Common.{◌≡◌, ℕ, true, List, [], ◌∷◌, ◌++◌, map, take}
use Rattle.std.proofs.Common.{refl, sym, ap, ◌∙◌, arith}
use Rattle.std.proofs.lemmas.Simd.{map-map}
use Rattle.std.specs.List.{filter, flat_map, list_all}
use Rattle.std.proofs.lemmas.Bool.{and_from, and_parts}
use Rattle.std.proofs.lemmas.List.Folds.{flat_map-map, list_all-append, list_all-map}
use Rattle.skk_text.specs.PairsLaws.{list_all-take, list_all-weaker}
use Rattle.ordered_lists.specs.OrderLaws.{list_all-sort_by}
use Rattle.ordered_lists.specs.Orders.{sort_by}
use Rattle.skk_calls.specs.declared.part.Part.TheVariants.{Nasi}
use Rattle.skk_calls.specs.Completions.{all_readings, ascending_readings, completes, completion_limit, completions}
use Rattle.skk_calls.specs.Completions.{goes_on_from, newest_readings, reading_of}
use Rattle.skk_calls.specs.Dictionary.{is_plain_reading}
use Rattle.skk_calls.specs.Found.{first_of_each}
use Rattle.skk_calls.specs.KeyLaws.{same_part_equal}
use Rattle.skk_calls.specs.Orders.{is_newer, text_less}
use Rattle.skk_calls.specs.Rows.{Row, is_row, keys_differ, texts_differ}
use Rattle.skk_calls.specs.States.{State, books_read, count_of, fits_count, is_valid, rows_of}
use Rattle.dict_laws.specs.ValidStates.{rows_of_ascend, rows_of_fit}
use Rattle.dict_files.specs.Files.{is_file}
use Rattle.dict_files.specs.Walked.{walked_readings}
use Rattle.dict_complete.specs.FirstReadings.{first_enough, first_of_each-all}
use Rattle.dict_complete.specs.Joined.{completions_among}
use Rattle.learn_index.proofs.NewestFirst.{newest_differ}

-- The readings of the system files

-- of the readings that walks go over, those that go on from a prefix are the completions of the files
walked_on : (prefix : List ℕ)
    → ((rows : List Row) → keys_differ rows ≡ true
    → filter (goes_on_from prefix) (walked_readings rows) ≡ ascending_readings prefix rows)
    → (files : List (List Row)) → list_all is_file files ≡ true
    → flat_map (filter (goes_on_from prefix)) (map walked_readings files) ≡ flat_map (ascending_readings prefix) files
walked_on prefix same [] valid = refl
walked_on prefix same (rows ∷ files) valid = grind (arith, same rows, walked_on prefix same files)

-- The readings of the books

module _ (files : List (List Row)) (state : State) (who : ℕ) (prefix : List ℕ) where
  -- the newest readings of a book
  abbrev newest_of : ℕ → List (List ℕ)
  newest_of number = newest_readings prefix (rows_of state number)

  -- the newest readings of each book differ
  each_differ : is_valid state ≡ true → (numbers : List ℕ) → list_all texts_differ (map newest_of numbers) ≡ true
  each_differ valid [] = refl
  each_differ valid (number ∷ numbers) =
      and_from (texts_differ (newest_of number)) (list_all texts_differ (map newest_of numbers))
      (newest_differ prefix (rows_of state number) (rows_of_ascend state number valid)) (each_differ valid numbers)

  -- so the first of them are enough
  pub joined : is_valid state ≡ true → list_all is_file files ≡ true
      → ((rows : List Row) → keys_differ rows ≡ true
      → filter (goes_on_from prefix) (walked_readings rows) ≡ ascending_readings prefix rows)
      → completions_among
      (map (λ number. take completion_limit (newest_readings prefix (rows_of state number))) (books_read state who))
      (map walked_readings files) prefix
      ≡ completions files state who prefix
  joined valid filed same =
      let books = books_read state who in
      ap (λ lists. completions_among lists (map walked_readings files) prefix)
      (sym (map-map (take completion_limit) newest_of books))
      ∙ first_enough (map newest_of books) (map walked_readings files) prefix (each_differ valid books)
      ∙ ap (λ readings. firsts (readings ++ flat_map (filter (goes_on_from prefix)) (map walked_readings files)))
      (flat_map-map (λ (readings : List (List ℕ)). readings) newest_of books)
      ∙ ap (λ readings. firsts (flat_map newest_of books ++ readings)) (walked_on prefix same files filed)
    where
      firsts : List (List ℕ) → List (List ℕ)
      firsts readings = take completion_limit (first_of_each (λ reading. reading) [] readings)

-- Valid readings

-- the reading of a row that completes a prefix is valid
plain_row : (prefix : List ℕ) (row : Row) → is_row row ≡ true → completes prefix row ≡ true
    → is_plain_reading (reading_of row) ≡ true
plain_row prefix row valid e = grind (arith, same_part_equal row.key.part Nasi)

-- so are those of all rows
plain_rows : (prefix : List ℕ) (rows : List Row) → list_all is_row rows ≡ true
    → list_all (λ row. is_plain_reading (reading_of row)) (filter (completes prefix) rows) ≡ true
plain_rows prefix [] valid = refl
plain_rows prefix (row ∷ rows) valid = grind (arith, plain_row prefix row, plain_rows prefix rows)

-- of a book and of a file
newest_plain : (prefix : List ℕ) (rows : List Row) → list_all is_row rows ≡ true
    → list_all is_plain_reading (newest_readings prefix rows) ≡ true
newest_plain prefix rows valid =
    list_all-map is_plain_reading reading_of (sort_by is_newer (filter (completes prefix) rows))
    ∙ list_all-sort_by is_newer (λ row. is_plain_reading (reading_of row)) (filter (completes prefix) rows)
    (plain_rows prefix rows valid)

ascending_plain : (prefix : List ℕ) (rows : List Row) → list_all is_row rows ≡ true
    → list_all is_plain_reading (ascending_readings prefix rows) ≡ true
ascending_plain prefix rows valid =
    list_all-sort_by text_less is_plain_reading (map reading_of (filter (completes prefix) rows))
    (list_all-map is_plain_reading reading_of (filter (completes prefix) rows) ∙ plain_rows prefix rows valid)

-- of files
filed_plain : (prefix : List ℕ) (files : List (List Row)) → list_all is_file files ≡ true
    → list_all is_plain_reading (flat_map (ascending_readings prefix) files) ≡ true
filed_plain prefix [] valid = refl
filed_plain prefix (rows ∷ files) valid =
    grind (
      arith,
      list_all-append is_plain_reading (ascending_readings prefix rows) (flat_map (ascending_readings prefix) files),
      ascending_plain prefix rows,
      filed_plain prefix files,
    )

-- the rows of a book of a valid state are rows
rows_valid : (state : State) (number : ℕ) → is_valid state ≡ true → list_all is_row (rows_of state number) ≡ true
rows_valid state number valid =
    list_all-weaker (fits_count (count_of state number)) is_row
    (λ row e. (and_parts (is_row row) _ e).0) (rows_of state number) (rows_of_fit state number valid)

-- the readings of books of a valid state are valid
books_plain : (state : State) (prefix : List ℕ) → is_valid state ≡ true → (numbers : List ℕ)
    → list_all is_plain_reading (flat_map (λ number. newest_readings prefix (rows_of state number)) numbers) ≡ true
books_plain state prefix valid [] = refl
books_plain state prefix valid (number ∷ numbers) =
    let own = newest_readings prefix (rows_of state number) in
    let others = flat_map (λ other. newest_readings prefix (rows_of state other)) numbers in
    list_all-append is_plain_reading own others
    ∙ and_from (list_all is_plain_reading own) (list_all is_plain_reading others)
    (newest_plain prefix (rows_of state number) (rows_valid state number valid))
    (books_plain state prefix valid numbers)

-- all that a completion gives is valid
pub completions_plain : (files : List (List Row)) (state : State) (who : ℕ) (prefix : List ℕ)
    → is_valid state ≡ true → list_all is_file files ≡ true
    → list_all is_plain_reading (completions files state who prefix) ≡ true
completions_plain files state who prefix valid filed =
    let own = flat_map (λ number. newest_readings prefix (rows_of state number)) (books_read state who) in
    let behind = flat_map (ascending_readings prefix) files in
    list_all-take is_plain_reading completion_limit
    (first_of_each (λ reading. reading) [] (all_readings files state who prefix))
    (first_of_each-all (λ reading. reading) is_plain_reading (all_readings files state who prefix)
    (list_all-append is_plain_reading own behind
    ∙ and_from (list_all is_plain_reading own) (list_all is_plain_reading behind)
    (books_plain state prefix valid (books_read state who)) (filed_plain prefix files filed)))
