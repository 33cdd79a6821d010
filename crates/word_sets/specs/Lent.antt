-- What a map by words ends as, once a `&mut` to one of its values has ended.
use Rattle.std.specs.Prelude.{ℕ, List, Option}
use Rattle.std.specs.Borrow.{Fml, RattleType, MutBor, LendsIf}
use Rattle.std.specs.Map.{set_value}
use Rattle.skk_calls.specs.Rows.{same_text}
use Rattle.word_sets.specs.contracts.word_map.WordMap.{the_row}

-- the word has the last value written through the reference, and at `None` the map stays as it is
abbrev pub lends_value : (V : RattleType) → MutBor (List (List ℕ × V.Denot)) → List ℕ → Option (MutBor V.Denot) → Fml
lends_value V words word value =
    LendsIf (the_row V) V words value (set_value (same_text word) words.now) words.now
