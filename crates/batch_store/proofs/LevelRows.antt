-- The learnings of rows and the most candidates that one of them has, one row after another, and their levels, one
-- after another.
use Rattle.std.proofs.Common.{◌≡◌, ℕ, ◌+◌, ◌-◌, ◌<◌, zero, suc, max}
use Rattle.std.proofs.Common.{arith, true, Some, None, List, [], ◌∷◌, ◌++◌, length}
use Rattle.std.proofs.Common.{map, get_or, take, ap, ◌∙◌, sym, add-one, length-append}
use Rattle.std.specs.List.{filter}
use Rattle.std.specs.Prelude.{slice_get}
use Rattle.std.proofs.lemmas.List.{get_or-map, get_or_push, length-map, map_more, map_push}
use Rattle.std.proofs.lemmas.List.Elements.{filter_map-append}
use Rattle.std.proofs.lemmas.Bool.Decides.{nat_tests}
use Rattle.skk_text.specs.FilterLaws.{filter_within}
use Rattle.skk_calls.specs.declared.call.Call.{Call}
use Rattle.skk_calls.specs.declared.call.Call.TheVariants.{Learn}
use Rattle.skk_calls.specs.Rows.{Cand, Row}
use Rattle.batch_store.specs.Learnings.{learning_of, learnings_at, most_cands}
use Rattle.batch_store.specs.Levels.{has_rank, levels_below}

-- the most candidates of rows and of one more
most_push : (rows : List Row) (row : Row)
    → most_cands (rows ++ row ∷ []) ≡ max (most_cands rows) (length row.cands)
most_push [] row = omega arith
most_push (first ∷ rows) row = omega (arith, most_push rows row)

-- the learning of a row that has a candidate of the rank
learning_alone : (book rank : ℕ) (row : Row) (cand : Cand) → slice_get row.cands rank ≡ Some cand
    → learnings_at book (row ∷ []) rank ≡ Learn book row.key None cand ∷ []
learning_alone book rank row cand has = rw has

module _ {X : Type 0} (row_of : X → Row) (xs : List X) (i : ℕ) (d : X) where
  -- those of what rows are made of, with one more
  pub most_more : i < length xs → most_cands (map row_of (take (i + 1) xs))
      ≡ max (most_cands (map row_of (take i xs))) (length (row_of (get_or xs i d)).cands)
  most_more low =
      ap most_cands (map_more row_of xs i d low) ∙ most_push (map row_of (take i xs)) (row_of (get_or xs i d))

  -- the learnings of the first of what rows are made of, and of one more that has a candidate of the rank
  pub learnings_more : (book rank : ℕ) (cand : Cand) → i < length xs
      → slice_get (row_of (get_or xs i d)).cands rank ≡ Some cand
      → learnings_at book (map row_of (take (i + 1) xs)) rank
      ≡ learnings_at book (map row_of (take i xs)) rank ++ Learn book (row_of (get_or xs i d)).key None cand ∷ []
  learnings_more book rank cand low has =
      ap (λ (rows : List Row). learnings_at book rows rank) (map_more row_of xs i d low)
      ∙ filter_map-append (learning_of book rank) (map row_of (take i xs)) (row_of (get_or xs i d) ∷ [])
      ∙ ap (λ (calls : List Call). learnings_at book (map row_of (take i xs)) rank ++ calls)
      (learning_alone book rank (row_of (get_or xs i d)) cand has)

-- a row that has a candidate of a rank has one of the rank before it
rank_before : (rank : ℕ) (row : Row) → has_rank (suc rank) row ≡ true → has_rank rank row ≡ true
rank_before rank row has = grind (arith, nat_tests)

-- so the rows of a rank are all among those of the rank before it
pub rows_of_next : (rank : ℕ) (rows : List Row)
    → filter (has_rank (suc rank)) (filter (has_rank rank) rows) ≡ filter (has_rank (suc rank)) rows
rows_of_next rank rows = filter_within (has_rank rank) (has_rank (suc rank)) (rank_before rank) rows

module _ {L : Type 0} (rows_of : L → List Row) (levels : List L) (rows : List Row) where
  -- the rows of the last level that have a candidate of the rank behind it are all that have one
  pub next_level : (rank : ℕ) (level : L) → map rows_of levels ≡ levels_below rows rank → 0 < length levels
      → level ≡ get_or levels (length levels - 1) level
      → filter (has_rank rank) (rows_of level) ≡ filter (has_rank rank) rows
  next_level zero level are some last =
      let none : length levels ≡ 0 = sym (length-map levels rows_of) ∙ ap length are in
      absurd (omega (arith, none))
  next_level (suc rank) level are some last =
      let at : ℕ = length levels - 1 in
      let kept : List Row = filter (has_rank rank) rows in
      let before : List (List Row) = levels_below rows rank in
      let long : length levels ≡ length before + 1 =
      sym (length-map levels rows_of) ∙ ap length are ∙ length-append before (kept ∷ []) in
      let is : rows_of level ≡ kept =
      ap rows_of last ∙ sym (get_or-map rows_of levels at level kept (omega (arith, some)))
      ∙ ap (λ (lists : List (List Row)). get_or lists at kept) are
      ∙ get_or_push before kept kept at (omega (arith, long)) in
      ap (filter (has_rank (suc rank))) is ∙ rows_of_next rank rows

  -- one level more
  pub levels_more : (rank : ℕ) (level : L) (pushed : List L) → map rows_of levels ≡ levels_below rows rank
      → pushed ≡ levels ++ level ∷ [] → rows_of level ≡ filter (has_rank rank) rows
      → map rows_of pushed ≡ levels_below rows (rank + 1)
  levels_more rank level pushed are made is = rw (made, map_push rows_of levels level, add-one, are, is)
