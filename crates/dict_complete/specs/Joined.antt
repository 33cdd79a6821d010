-- What a completion joins: the readings of books and those of files.
use Rattle.std.specs.Prelude.{ℕ, List, [], ◌++◌, length, nat_lt, if◌then◌else◌, take}
use Rattle.std.specs.List.{filter, flat_map}
use Rattle.skk_calls.specs.Completions.{completion_limit, goes_on_from}
use Rattle.skk_calls.specs.Found.{first_of_each}
use Rattle.word_sets.specs.Firsts.{with_new}

-- the readings of lists, one list behind another
abbrev pub readings_in : List (List (List ℕ)) → List (List ℕ)
readings_in lists = flat_map (λ readings. readings) lists

-- readings of books, and those of each file that go on from a prefix, in order: the first of each, up to the most that
-- are given
abbrev pub completions_among : List (List (List ℕ)) → List (List (List ℕ)) → List ℕ → List (List ℕ)
completions_among lists files prefix =
    take completion_limit
    (first_of_each (λ reading. reading) []
    (readings_in lists ++ flat_map (filter (goes_on_from prefix)) files))

-- readings with one more at their end, where it is a new one and they are fewer than a limit
abbrev pub with_more : ℕ → List (List ℕ) → List ℕ → List (List ℕ)
with_more limit readings reading =
    if nat_lt (length readings) limit then with_new (λ text. text) readings reading else readings
