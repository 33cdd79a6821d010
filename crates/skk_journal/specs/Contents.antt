-- What a learned file has.
use Rattle.std.specs.Prelude.{ℕ, List, [], ◌∷◌, ◌++◌}

-- what a learned file has: the version, which says which payloads it may have, and the payloads of its records in order
pub record Contents : Type 0 where
  pub version : ℕ
  pub records : List (List ℕ)

-- what a file of this version without records has
abbrev pub no_records : ℕ → Contents
no_records version = record { version = version; records = [] }

-- these contents with the added records behind the others
abbrev pub with_added : Contents → List (List ℕ) → Contents
with_added contents added = record { version = contents.version; records = contents.records ++ added }

-- these contents with one record more
abbrev pub with_record : Contents → List ℕ → Contents
with_record contents payload = with_added contents (payload ∷ [])
