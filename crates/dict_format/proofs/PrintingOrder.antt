-- The rows of a part in the order in which they are printed.
use Rattle.std.proofs.Common.{◌≡◌, arith, Bool, true, false, ◌&&◌, not, ℕ, List, [], sym, ◌∙◌}
use Rattle.std.specs.Cmp.{IsStrictWeakOrder}
use Rattle.std.specs.List.{list_all, filter}
use Rattle.std.specs.List.Sorted.{IsPermutation}
use Rattle.std.proofs.lemmas.List.{append-nil}
use Rattle.std.proofs.lemmas.List.Elements.{filter-append}
use Rattle.std.proofs.lemmas.List.Sorted.{IsStrictWeakOrder-flip, IsPermutation-trans, IsPermutation-append}
use Rattle.std.proofs.lemmas.List.Sorted.{IsPermutation-filter_both}
use Rattle.skk_text.specs.FilterLaws.{filter_all, filter_none, list_all_kept}
use Rattle.skk_text.specs.Pairs.{all_pairs}
use Rattle.skk_text.specs.PairsLaws.{all_pairs-filter, list_all-filter, list_all-weaker, pairs_appended}
use Rattle.skk_text.specs.PairsLaws.{pairs_weaker, pairs_within}
use Rattle.skk_calls.specs.KeyLaws.{same_equal, same_other}
use Rattle.skk_calls.specs.declared.part.Part.{Part}
use Rattle.skk_calls.specs.declared.part.Part.TheVariants.{Nasi, Ari}
use Rattle.skk_calls.specs.Orders.{sort_by, text_less}
use Rattle.skk_calls.specs.Rows.{Row, same_text, same_part, same_key, keys_differ}
use Rattle.dict_format.specs.PrintedFiles.{is_of, is_printed_before, part_in_order, in_printing_order}
use Rattle.skk_calls.specs.OrderLaws.{apart, holds_moved, not_itself, order_read, sort_moves, sort_ascends, sort_stays}
use Rattle.skk_calls.specs.OrderLaws.{text_order, texts_apart}
use Rattle.dict_format.proofs.FileRows.{other_part}

-- two rows differ in their keys
abbrev pub differ_in_key : Row → Row → Bool
differ_in_key row other = not (same_key row.key other.key)

by_readings : IsStrictWeakOrder (is_printed_before Nasi)
by_readings = order_read (λ (row : Row). row.key.reading) text_less text_order

-- the order of a part is one
pub part_order : (part : Part) → IsStrictWeakOrder (is_printed_before part)
part_order Nasi = by_readings
part_order Ari = IsStrictWeakOrder-flip (is_printed_before Nasi) by_readings

-- of two rows of a part whose keys differ one is printed before the other
rows_apart : (part : Part) (row other : Row) → is_of part row ≡ true → is_of part other ≡ true
    → differ_in_key row other ≡ true → apart (is_printed_before part) row other ≡ true
rows_apart part row other here there differ =
    grind (arith, texts_apart, same_other row.key.reading other.key.reading)

-- of two rows of which one is printed before the other the keys differ
texts_unlike : (text other : List ℕ) → text_less text other ≡ true → same_text text other ≡ false
texts_unlike text other less = grind (arith, same_equal text other, not_itself text_less text_order text)

printed_apart : (part : Part) (row other : Row) → is_printed_before part row other ≡ true
    → differ_in_key row other ≡ true
printed_apart part row other before = grind (arith, texts_unlike, same_other row.key.reading other.key.reading)

-- a row is of one part alone
one_part : (part p : Part) → same_part p (other_part part) ≡ not (same_part p part)
one_part part p = grind arith

-- rows with okurigana differ from those without it
parts_differ : (p q : Part) (same : Bool) → same_part p Ari ≡ true → same_part q Nasi ≡ true
    → not (same_part p q && same) ≡ true
parts_differ p q same e f = grind arith

module _ (part : Part) where
  -- of the rows of a part always one is printed before the other
  pub part_apart : (rows : List Row) → keys_differ rows ≡ true
      → all_pairs (apart (is_printed_before part)) (filter (is_of part) rows) ≡ true
  part_apart rows differ =
      pairs_within (is_of part) differ_in_key (apart (is_printed_before part)) (rows_apart part)
      (filter (is_of part) rows) (list_all_kept (is_of part) rows)
      (all_pairs-filter differ_in_key (is_of part) rows differ)

  -- in printing order they ascend
  part_ascends : (rows : List Row) → keys_differ rows ≡ true
      → all_pairs (is_printed_before part) (part_in_order part rows) ≡ true
  part_ascends rows differ =
      sort_ascends (is_printed_before part) (part_order part) (filter (is_of part) rows) (part_apart rows differ)

  -- so their keys differ, and they stay as they are
  part_differs : (rows : List Row) → keys_differ rows ≡ true → keys_differ (part_in_order part rows) ≡ true
  part_differs rows differ =
      pairs_weaker (is_printed_before part) differ_in_key (printed_apart part) (part_in_order part rows)
      (part_ascends rows differ)

  part_stays : (rows : List Row) → keys_differ rows ≡ true
      → sort_by (is_printed_before part) (part_in_order part rows) ≡ part_in_order part rows
  part_stays rows differ = sort_stays (is_printed_before part) (part_in_order part rows) (part_ascends rows differ)

  -- what each row passes, each of them passes
  pub part_passes : (test : Row → Bool) (rows : List Row) → list_all test rows ≡ true
      → list_all test (part_in_order part rows) ≡ true
  part_passes test rows all =
      holds_moved test _ _ (sort_moves (is_printed_before part) (filter (is_of part) rows))
      (list_all-filter test (is_of part) rows all)

  -- they are of the part, and of no other
  pub part_holds : (rows : List Row) → list_all (is_of part) (part_in_order part rows) ≡ true
  part_holds rows =
      holds_moved (is_of part) _ _ (sort_moves (is_printed_before part) (filter (is_of part) rows))
      (list_all_kept (is_of part) rows)

  own_part : (rows : List Row) → filter (is_of part) (part_in_order part rows) ≡ part_in_order part rows
  own_part rows = filter_all (is_of part) (part_in_order part rows) (part_holds rows)

other_none : (part : Part) (rows : List Row) → filter (is_of part) (part_in_order (other_part part) rows) ≡ []
other_none part rows =
    filter_none (is_of part) (part_in_order (other_part part) rows)
    (list_all-weaker (is_of (other_part part)) (λ row. not (is_of part row))
    (λ row e. sym (one_part part row.key.part) ∙ e) (part_in_order (other_part part) rows)
    (part_holds (other_part part) rows))

-- printing order moves rows
pub order_moves : (rows : List Row) → IsPermutation rows (in_printing_order rows)
order_moves rows =
    IsPermutation-trans _ _ _
    (IsPermutation-filter_both (is_of Ari) (is_of Nasi) (λ row. one_part Ari row.key.part) rows)
    (IsPermutation-append _ _ _ _ (sort_moves (is_printed_before Ari) (filter (is_of Ari) rows))
    (sort_moves (is_printed_before Nasi) (filter (is_of Nasi) rows)))

-- rows in printing order still have keys that differ
pub order_keeps_keys : (rows : List Row) → keys_differ rows ≡ true → keys_differ (in_printing_order rows) ≡ true
order_keeps_keys rows differ =
    let nasi = part_in_order Nasi rows in
    pairs_appended differ_in_key (part_in_order Ari rows) nasi (part_differs Ari rows differ)
    (part_differs Nasi rows differ) (list_all-weaker (is_of Ari) (λ row. list_all (differ_in_key row) nasi)
    (λ row here. list_all-weaker (is_of Nasi) (differ_in_key row)
    (λ other there. parts_differ row.key.part other.key.part _ here there) nasi (part_holds Nasi rows))
    (part_in_order Ari rows) (part_holds Ari rows))

-- rows in printing order stay in it
pub order_stays : (rows : List Row) → keys_differ rows ≡ true
    → in_printing_order (in_printing_order rows) ≡ in_printing_order rows
order_stays rows differ =
    simp (
      filter-append,
      own_part Ari rows,
      own_part Nasi rows,
      other_none Ari rows,
      other_none Nasi rows,
      append-nil,
      part_stays Ari rows differ,
      part_stays Nasi rows differ,
    )
