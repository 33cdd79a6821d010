-- The learnings that take the candidates of a dictionary over into a book.
use Rattle.std.specs.Prelude.{ℕ, zero, suc, max, Option, None, List, [], ◌∷◌, ◌++◌, length, take, drop, slice_get}
use Rattle.std.specs.List.{filter_map}
use Rattle.std.specs.Option.{option_map}
use Rattle.skk_calls.specs.declared.call.Call.{Call}
use Rattle.skk_calls.specs.declared.call.Call.TheVariants.{Learn}
use Rattle.skk_calls.specs.Rows.{Row}
use Rattle.dict_format.specs.PrintedFiles.{in_printing_order}
use Rattle.learn_index.specs.Groups.{group_limit}

-- the learning of the candidate of a row that has this rank, counted from 0, into a book, where the row has one
abbrev pub learning_of : ℕ → ℕ → Row → Option Call
learning_of book rank row = option_map (λ cand. Learn book row.key None cand) (slice_get row.cands rank)

-- those of rows, in order
abbrev pub learnings_at : ℕ → List Row → ℕ → List Call
learnings_at book rows rank = filter_map (learning_of book rank) rows

-- those of all ranks below one, the greatest rank first
abbrev pub learnings_below : ℕ → List Row → ℕ → List Call
learnings_below book rows zero = []
learnings_below book rows (suc rank) = learnings_at book rows rank ++ learnings_below book rows rank

-- the most candidates that one of these rows has
abbrev pub most_cands : List Row → ℕ
most_cands [] = 0
most_cands (row ∷ rows) = max (length row.cands) (most_cands rows)

-- the learnings of all candidates of rows: from the last ones of the longest rows on up to the first ones, those of one
-- rank in the order in which the rows are printed. So behind them each row that was new shows its candidates in the
-- order that they have in the file
abbrev pub import_calls : ℕ → List Row → List Call
import_calls book rows =
    let printed = in_printing_order rows in learnings_below book printed (most_cands printed)

-- The groups in which they are made

-- the first ones of a list in lists of as many as a group may have, so many of these at most
abbrev pub first_groups : {X : Type 0} → ℕ → List X → List (List X)
first_groups zero xs = []
first_groups (suc most) [] = []
first_groups (suc most) (x ∷ xs) = take group_limit (x ∷ xs) ∷ first_groups most (drop group_limit (x ∷ xs))

-- a list in lists of as many as a group may have, but for the last
abbrev pub in_groups : {X : Type 0} → List X → List (List X)
in_groups xs = first_groups (length xs) xs

-- the learnings of all ranks below one, the greatest rank first, each rank in groups
abbrev pub groups_below : ℕ → List Row → ℕ → List (List Call)
groups_below book rows zero = []
groups_below book rows (suc rank) = in_groups (learnings_at book rows rank) ++ groups_below book rows rank

-- the learnings of all candidates of rows, in groups of one rank that are as long as they may be, from the first on
abbrev pub import_groups : ℕ → List Row → List (List Call)
import_groups book rows = let printed = in_printing_order rows in groups_below book printed (most_cands printed)
