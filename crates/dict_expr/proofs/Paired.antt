-- What comes of rows, each with the other of its key.
use Rattle.std.proofs.Common.{◌≡◌, ◌∙◌, ◌<◌, ℕ, Bool, true, None, Some, Option, List, [], ◌∷◌, ◌++◌, map, length}
use Rattle.std.proofs.Common.{Bor, get_or, refl, sym, ap, arith}
use Rattle.std.specs.List.{filter_map, list_all}
use Rattle.std.specs.Option.{IfSome, option_copied}
use Rattle.std.proofs.lemmas.List.Folds.{list_all-map}
use Rattle.std.proofs.lemmas.List.Sums.{AllPass-from_list_all}
use Rattle.skk_text.specs.FilterLaws.{find_passes}
use Rattle.skk_calls.specs.Rows.{Row, RowKey, keys_differ, same_key, same_part}
use Rattle.skk_calls.specs.States.{row_in}
use Rattle.dict_format.specs.PrintedFiles.{without_stamp}
use Rattle.dict_expr.proofs.ByKey.{order_keeps}
use Rattle.dict_expr.specs.Books.{difference, in_order, rows_apart, sum}
use Rattle.dict_expr.specs.Pairs.{are_of_one_part, joined_pair, lonely, paired, remaining_pair, seen}
use Rattle.dict_expr.specs.Rows.{joined, remaining}

-- a row and the other of its key are of one part
part_of_found : (row : Row) (others : List Row) (found : Option Row) → row_in row.key others ≡ found
    → are_of_one_part (row, found) ≡ true
part_of_found row others None e = refl
part_of_found row others (Some other) e =
    let same = find_passes (λ r. same_key r.key row.key) others other e in grind (arith, same)

pub one_part : (others rows : List Row) → list_all are_of_one_part (map (paired others) rows) ≡ true
one_part others [] = refl
one_part others (row ∷ rows) =
    grind (arith, part_of_found row others (row_in row.key others) refl, one_part others rows)

-- so it is with each of the pairs
one_part_is : (row : Row) (other : Option Row) → are_of_one_part (row, other) ≡ true
    → IfSome other (λ o. same_part o.key.part row.key.part ≡ true)
one_part_is row None e = tt
one_part_is row (Some other) e = e

abbrev is_pair : Bor Row × Option (Bor Row) → Bool
is_pair pair = are_of_one_part (pair.0.now, option_copied pair.1)

pub part_at : (pairs : List (Bor Row × Option (Bor Row))) (place : ℕ) (pair : Bor Row × Option (Bor Row))
    → list_all are_of_one_part (seen pairs) ≡ true → place < length pairs → pair ≡ get_or pairs place pair
    → IfSome (option_copied pair.1) (λ o. same_part o.key.part pair.0.now.key.part ≡ true)
part_at pairs place pair all low is =
    let each : list_all is_pair pairs ≡ true =
    sym (list_all-map are_of_one_part (λ (p : Bor Row × Option (Bor Row)). (p.0.now, option_copied p.1)) pairs) ∙ all in
    one_part_is pair.0.now (option_copied pair.1)
    (ap is_pair is ∙ AllPass-from_list_all is_pair pairs each place pair low)

-- where each key has the same row among some rows as among others
module _ (some others : List Row) (same : (key : RowKey) → row_in key some ≡ row_in key others) where
  joined_pairs : (rows : List Row)
      → map joined_pair (map (paired some) rows) ≡ map (λ row. joined row (row_in row.key others)) rows
  joined_pairs [] = refl
  joined_pairs (row ∷ rows) = cc (same row.key, joined_pairs rows)

  lonely_pairs : (rows : List Row)
      → filter_map lonely (map (paired some) rows) ≡ map without_stamp (rows_apart rows others)
  lonely_pairs [] = refl
  lonely_pairs (row ∷ rows) = by (row_in row.key others) (same row.key) refl (lonely_pairs rows)
    where
      by : (found : Option Row) → row_in row.key some ≡ row_in row.key others → row_in row.key others ≡ found
          → filter_map lonely (map (paired some) rows) ≡ map without_stamp (rows_apart rows others)
          → filter_map lonely (map (paired some) (row ∷ rows)) ≡ map without_stamp (rows_apart (row ∷ rows) others)
      by None alike is later = grind (arith, alike, is, later)
      by (Some other) alike is later = grind (arith, alike, is, later)

  left_pairs : (rows : List Row) → filter_map remaining_pair (map (paired some) rows)
      ≡ filter_map (λ row. remaining row (row_in row.key others)) rows
  left_pairs [] = refl
  left_pairs (row ∷ rows) = cc (same row.key, left_pairs rows)

-- two walks come to a sum
pairs_add : (rows others : List Row) → keys_differ rows ≡ true → keys_differ others ≡ true
    → map joined_pair (map (paired (in_order others)) (in_order rows))
    ++ filter_map lonely (map (paired (in_order rows)) (in_order others)) ≡ sum rows others
pairs_add rows others first second =
    cc (
      joined_pairs (in_order others) others (λ key. order_keeps key others second) (in_order rows),
      lonely_pairs (in_order rows) rows (λ key. order_keeps key rows first) (in_order others),
    )

-- and one to a difference
pairs_subtract : (rows others : List Row) → keys_differ others ≡ true
    → filter_map remaining_pair (map (paired (in_order others)) (in_order rows)) ≡ difference rows others
pairs_subtract rows others second =
    left_pairs (in_order others) others (λ key. order_keeps key others second) (in_order rows)

-- so it is with what comes of the walks one by one
pub walked_sum : (rows others none one two : List Row) (in_first in_second : List (Row × Option Row))
    → keys_differ rows ≡ true → keys_differ others ≡ true
    → in_first ≡ map (paired (in_order others)) (in_order rows)
    → in_second ≡ map (paired (in_order rows)) (in_order others)
    → none ≡ [] → one ≡ none ++ map joined_pair in_first → two ≡ one ++ filter_map lonely in_second
    → two ≡ sum rows others
walked_sum rows others none one two in_first in_second differ differ' first_pairs second_pairs empty joined_are
    lonely_are =
    lonely_are
    ∙ ap (λ added. added ++ filter_map lonely in_second)
    (joined_are ∙ ap (λ added. added ++ map joined_pair in_first) empty)
    ∙ ap (λ pairs. map joined_pair pairs ++ filter_map lonely in_second) first_pairs
    ∙ ap (λ pairs. map joined_pair (map (paired (in_order others)) (in_order rows)) ++ filter_map lonely pairs)
    second_pairs
    ∙ pairs_add rows others differ differ'

pub walked_difference : (rows others left : List Row) (in_first : List (Row × Option Row)) → keys_differ others ≡ true
    → in_first ≡ map (paired (in_order others)) (in_order rows) → left ≡ filter_map remaining_pair in_first
    → left ≡ difference rows others
walked_difference rows others left in_first differ first_pairs left_are =
    left_are ∙ ap (filter_map remaining_pair) first_pairs ∙ pairs_subtract rows others differ
