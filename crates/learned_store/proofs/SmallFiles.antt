-- Small learned files and what their records say, which other examples share.
use Rattle.std.proofs.Common.{ℕ, None, List, [], ◌∷◌, ◌++◌, All, codes, refl, arith, lit≤}
use Rattle.std.proofs.lemmas.List.Elements.{All-nil, All-cons}
use Rattle.exact_readers.specs.Numbers.{number_bytes}
use Rattle.skk_disk.specs.Image.{Image}
use Rattle.skk_calls.specs.declared.part.Part.TheVariants.{Nasi}
use Rattle.skk_calls.specs.declared.call.Call.{Call}
use Rattle.skk_calls.specs.declared.call.Call.TheVariants.{Learn}
use Rattle.skk_calls.specs.Rows.{Row}
use Rattle.skk_calls.specs.States.{State, empty_state}
use Rattle.skk_journal.specs.Contents.{Contents}
use Rattle.skk_journal.specs.Records.{IsSized, IsGeneration, HasContents, mark, front}
use Rattle.learned_store.specs.declared.form.PayloadForm.TheVariants.{Put, Drop, SetCount}
use Rattle.learned_store.specs.Payloads.{Says, SaysNothing, newest_version}
use Rattle.learned_store.specs.Recovered.{Leave}
use Rattle.learned_store.proofs.NoForms.{other_byte}

-- a row with one candidate and nothing else
abbrev pub row : List ℕ → List ℕ → ℕ → Row
row reading word stamp =
    record {
      key = record { part = Nasi; reading = reading };
      cands = record { word = word; note = [] } ∷ [];
      blocks = [];
      hides = [];
      stamp = stamp;
    }

-- b for a and d for c
abbrev pub row_a : Row
row_a = row (codes "a") (codes "b") 1

abbrev pub row_c : Row
row_c = row (codes "c") (codes "d") 2

-- b for a and d for c in book 1, then no row of a, then the count 5
abbrev pub first : List ℕ
first =
    1 ∷ 1 ∷ 0 ∷ 1 ∷ 0 ∷ 0 ∷ 0 ∷ 0 ∷ 0 ∷ 0 ∷ 0 ∷ 1 ∷ 0 ∷ 0 ∷ 0 ∷ 0 ∷ 0 ∷ 0 ∷ 0 ∷ 0 ∷ 97 ∷ 32 ∷ 47 ∷ 98 ∷ 47 ∷ []

abbrev pub second : List ℕ
second =
    1 ∷ 1 ∷ 0 ∷ 2 ∷ 0 ∷ 0 ∷ 0 ∷ 0 ∷ 0 ∷ 0 ∷ 0 ∷ 2 ∷ 0 ∷ 0 ∷ 0 ∷ 0 ∷ 0 ∷ 0 ∷ 0 ∷ 0 ∷ 99 ∷ 32 ∷ 47 ∷ 100 ∷ 47 ∷ []

abbrev pub third : List ℕ
third = 2 ∷ 1 ∷ 0 ∷ 2 ∷ 0 ∷ 0 ∷ 0 ∷ 0 ∷ 0 ∷ 0 ∷ 0 ∷ 0 ∷ 97 ∷ []

abbrev pub fourth : List ℕ
fourth = 3 ∷ 1 ∷ 0 ∷ 5 ∷ 0 ∷ 0 ∷ 0 ∷ 0 ∷ 0 ∷ 0 ∷ 0 ∷ []

-- book 1 with a count and rows
abbrev pub state : ℕ → List Row → State
state count rows = record { books = record { number = 1; count = count; rows = rows } ∷ []; lists = [] }

pub first_says : Says 1 empty_state first (Put 1 1 row_a)
unfolding lib.Utf8.encode number_bytes
first_says = record { known = refl; sound = refl; counted = lit≤ tt; follows = refl; is = refl }

pub second_says : Says 1 (state 1 (row_a ∷ [])) second (Put 1 2 row_c)
unfolding lib.Utf8.encode number_bytes
second_says = record { known = refl; sound = refl; counted = lit≤ tt; follows = refl; is = refl }

pub third_says : Says 1 (state 2 (row_a ∷ row_c ∷ [])) third (Drop 1 2 (record { part = Nasi; reading = codes "a" }))
unfolding lib.Utf8.encode number_bytes
third_says = record { known = refl; sound = refl; counted = lit≤ tt; follows = refl; is = refl }

pub fourth_says : Says 1 (state 2 (row_c ∷ [])) fourth (SetCount 1 5)
unfolding lib.Utf8.encode number_bytes
fourth_says = record { known = refl; sound = refl; counted = lit≤ tt; follows = refl; is = refl }

-- what a file of version 1 has
abbrev pub old : List (List ℕ) → Contents
old records = record { version = 1; records = records }

-- one record leaves its row, and two leave both
pub first_leaves : Leave (old (first ∷ [])) (state 1 (row_a ∷ []))
first_leaves = (Put 1 1 row_a, first_says, refl)

pub two_leave : Leave (old (first ∷ second ∷ [])) (state 2 (row_a ∷ row_c ∷ []))
unfolding lib.Utf8.encode
two_leave = (Put 1 1 row_a, first_says, (Put 1 2 row_c, second_says, refl))

-- a payload that says nothing, wherever it stands
abbrev pub nothing : List ℕ
nothing = 6 ∷ []

pub nothing_says : (version : ℕ) (state : State) → SaysNothing version state nothing
nothing_says version state =
    other_byte version state 6 [] (λ same. omega (arith, same)) (λ same. omega (arith, same))
    (λ same. omega (arith, same)) (λ same. omega (arith, same)) (λ same. omega (arith, same))

-- b is learnt for a in book 1, where nothing was learnt before
abbrev pub learn : Call
learn = Learn 1 row_a.key None (record { word = codes "b"; note = [] })

-- records of which each may be one
first_sized : IsSized first
first_sized = (lit≤ tt, lit≤ tt)

pub sized_one : All IsSized (first ∷ [])
sized_one = All-cons IsSized first [] first_sized (All-nil IsSized)

pub sized_two : All IsSized (first ∷ second ∷ [])
sized_two = All-cons IsSized first (second ∷ []) first_sized
    (All-cons IsSized second [] (lit≤ tt, lit≤ tt) (All-nil IsSized))

pub sized_odd : All IsSized (first ∷ nothing ∷ [])
sized_odd = All-cons IsSized first (nothing ∷ []) first_sized
    (All-cons IsSized nothing [] (lit≤ tt, lit≤ tt) (All-nil IsSized))

pub sized_odd_first : All IsSized (nothing ∷ first ∷ [])
sized_odd_first = All-cons IsSized nothing (first ∷ []) (lit≤ tt, lit≤ tt) sized_one

-- a pair of files
abbrev pub pair : List ℕ → List ℕ → Image
pair a b = record { a = a; b = b }

-- a file of version 1 and of a generation with records, without a gate and with a closed one behind them
abbrev pub begun : ℕ → List (List ℕ) → List ℕ
begun generation records = front generation (old records)

abbrev pub file : ℕ → List (List ℕ) → List ℕ
file generation records = begun generation records ++ 0 ∷ []

pub has : (generation : ℕ) (records : List (List ℕ)) → IsGeneration generation → All IsSized records
    → HasContents newest_version generation (old records) (file generation records)
has generation records told sized =
    record {
      gate = 0;
      rest = [];
      is = refl;
      right = (lit≤ tt, lit≤ tt);
      told = told;
      sized = sized;
      closed = λ same. omega (arith, same);
    }

-- an open gate and the mark, and a whole generation nowhere
abbrev pub short : List ℕ
short = 1 ∷ (mark 1 ++ 1 ∷ [])
