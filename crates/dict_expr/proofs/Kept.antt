-- What is left of rows of which each leaves at most one of its own key.
use Rattle.std.proofs.Common.{◌≡◌, true, false, not, Bool, Option, None, Some, List, [], ◌∷◌, refl, arith}
use Rattle.std.specs.List.{filter_map, list_all}
use Rattle.std.specs.Option.{option_and_then}
use Rattle.skk_text.specs.FilterLaws.{find_none}
use Rattle.skk_calls.specs.KeyLaws.{same_key_equal}
use Rattle.skk_calls.specs.Rows.{Row, RowKey, keys_differ, same_key}
use Rattle.skk_calls.specs.States.{row_in}
use Rattle.dict_expr.specs.Rows.{remaining, row_without, unless_nothing}

-- what is left of a row has its key
unless_key : (row left : Row) → unless_nothing row ≡ Some left → row ≡ left
unless_key row left e = grind arith

pub remaining_key : (row : Row) (other : Option Row) (left : Row) → remaining row other ≡ Some left
    → left.key ≡ row.key
remaining_key row None left e = cc
remaining_key row (Some other) left e = let is = unless_key (row_without row other) left e in cc

-- what a row has makes what it leaves pass a test
pub left_all : (leaves : Row → Option Row) (has test : Row → Bool)
    → ((row left : Row) → has row ≡ true → leaves row ≡ Some left → test left ≡ true)
    → (rows : List Row) → list_all has rows ≡ true → list_all test (filter_map leaves rows) ≡ true
left_all leaves has test so [] all = refl
left_all leaves has test so (row ∷ rows) all = by (leaves row) refl (left_all leaves has test so rows (grind arith))
  where
    by : (left : Option Row) → leaves row ≡ left → list_all test (filter_map leaves rows) ≡ true
        → list_all test (filter_map leaves (row ∷ rows)) ≡ true
    by None e later = grind (arith, later)
    by (Some left) e later = let passes = so row left (grind arith) e in grind (arith, later)

module _ (leaves : Row → Option Row)
    (keeps : (row left : Row) → leaves row ≡ Some left → left.key ≡ row.key) where
  -- what the keys of all rows pass, the keys of those that are left pass
  keys_all : (test : RowKey → Bool) (rows : List Row) → list_all (λ row. test row.key) rows ≡ true
      → list_all (λ row. test row.key) (filter_map leaves rows) ≡ true
  keys_all test [] all = refl
  keys_all test (row ∷ rows) all = by (leaves row) refl (keys_all test rows (grind arith))
    where
      by : (left : Option Row) → leaves row ≡ left
          → list_all (λ row. test row.key) (filter_map leaves rows) ≡ true
          → list_all (λ row. test row.key) (filter_map leaves (row ∷ rows)) ≡ true
      by None e later = grind (arith, later)
      by (Some left) e later = let same = keeps row left e in grind (arith, later)

  -- where no key has two rows, none has two of those that are left
  pub left_differ : (rows : List Row) → keys_differ rows ≡ true → keys_differ (filter_map leaves rows) ≡ true
  left_differ [] differ = refl
  left_differ (row ∷ rows) differ = by (leaves row) refl (left_differ rows (grind arith))
    where
      by : (left : Option Row) → leaves row ≡ left → keys_differ (filter_map leaves rows) ≡ true
          → keys_differ (filter_map leaves (row ∷ rows)) ≡ true
      by None e later = grind (arith, later)
      by (Some left) e later =
          let same = keeps row left e in
          grind (arith, later, keys_all (λ key. not (same_key row.key key)) rows)

  -- no row behind one of a key has it
  none_behind : (key : RowKey) (row : Row) (rows : List Row) → keys_differ (row ∷ rows) ≡ true
      → same_key row.key key ≡ true → row_in key rows ≡ None
  none_behind key row rows differ same =
      find_none (λ other. same_key other.key key) rows
      (all_unlike rows (grind arith))
    where
      is : row.key ≡ key
      is = same_key_equal row.key key same

      all_unlike : (others : List Row) → list_all (λ other. not (same_key row.key other.key)) others ≡ true
          → list_all (λ other. not (same_key other.key key)) others ≡ true
      all_unlike [] all = refl
      all_unlike (other ∷ others) all =
          grind (arith, same_key_equal other.key key, is, same, all_unlike others)

  -- and each key has of them what its row leaves
  pub left_in : (key : RowKey) (rows : List Row) → keys_differ rows ≡ true
      → row_in key (filter_map leaves rows) ≡ option_and_then leaves (row_in key rows)
  left_in key [] differ = refl
  left_in key (row ∷ rows) differ =
      by (leaves row) refl (same_key row.key key) refl (left_in key rows (grind arith))
    where
      by : (left : Option Row) → leaves row ≡ left → (b : Bool) → same_key row.key key ≡ b
          → row_in key (filter_map leaves rows) ≡ option_and_then leaves (row_in key rows)
          → row_in key (filter_map leaves (row ∷ rows)) ≡ option_and_then leaves (row_in key (row ∷ rows))
      by None e true same later = grind (arith, later, none_behind key row rows differ same)
      by None e false same later = grind (arith, later)
      by (Some left) e b same later = let is = keeps row left e in grind (arith, later)
