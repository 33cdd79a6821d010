-- The readings of the system files, as a completion goes over them.
use Rattle.std.specs.Prelude.{ℕ, Bool, ◌||◌, not, Option, List, find}
use Rattle.std.specs.List.{list_all}
use Rattle.skk_text.specs.Pairs.{all_pairs}
use Rattle.skk_calls.specs.Orders.{text_less}
use Rattle.skk_calls.specs.Rows.{same_text}

-- texts ascend by their bytes
abbrev pub texts_ascend : List (List ℕ) → Bool
texts_ascend texts = all_pairs text_less texts

-- the texts of each file ascend
abbrev pub all_ascend : List (List (List ℕ)) → Bool
all_ascend files = list_all texts_ascend files

-- the first of ascending texts that is greater than another, which is the least such
abbrev pub next_above : List (List ℕ) → List ℕ → Option (List ℕ)
next_above texts low = find (text_less low) texts

-- a text is not greater than the low one, or is the next one or greater than that
abbrev pub is_least_above : List ℕ → List ℕ → List ℕ → Bool
is_least_above low next text = not (text_less low text) || (same_text text next || text_less next text)
