-- Readings that are added one by one up to a limit: they are the first of each, and of readings that differ as many as
-- the limit says are enough.
use Rattle.std.proofs.Common.{◌≡◌, ℕ, zero, suc, ◌+◌, ◌≤◌, true, false, cond, nat_lt, List, [], ◌∷◌, ◌++◌}
use Rattle.std.proofs.Common.{length, map, take, refl, sym, ap, ◌∙◌, arith, length-append}
use Rattle.std.specs.List.{filter, fold, flat_map, list_all}
use Rattle.std.proofs.lemmas.Bool.{and_parts}
use Rattle.std.proofs.lemmas.Bool.Decides.{nat_tests}
use Rattle.std.proofs.lemmas.List.{take-append-le, take_all}
use Rattle.std.proofs.lemmas.List.Sums.{fold-append}
use Rattle.skk_calls.specs.Completions.{completion_limit, goes_on_from}
use Rattle.skk_calls.specs.DifferLaws.{differ_parts}
use Rattle.skk_calls.specs.Found.{first_of_each}
use Rattle.skk_calls.specs.Rows.{has_text, texts_differ}
pub use Rattle.word_sets.specs.FirstLaws.{first_of_each-all}
use Rattle.word_sets.specs.FirstLaws.{first_of_each-fold, first_unseen, same_equal, same_other, texts_stay}
use Rattle.word_sets.specs.Firsts.{with_new}
use Rattle.dict_complete.specs.Joined.{completions_among, readings_in, with_more}

module _ (limit : ℕ) where
  -- where there are fewer than the limit says, one more is added if it is a new one
  pub one_added : (readings : List (List ℕ)) (reading : List ℕ) → nat_lt (length readings) limit ≡ true
      → with_more limit readings reading ≡ with_new (λ text. text) readings reading
  one_added readings reading fits =
      ap (λ b. cond b (with_new (λ text. text) readings reading) readings) fits

  -- where there are as many, none is added
  pub full_stays : (readings more : List (List ℕ)) → nat_lt (length readings) limit ≡ false
      → fold (with_more limit) readings more ≡ readings
  full_stays readings [] full = refl
  full_stays readings (reading ∷ more) full = rw full (full_stays readings more full)

  -- what is added one by one stands behind what is there
  behind : (readings more : List (List ℕ))
      → fold (with_new (λ text. text)) readings more
      ≡ readings ++ first_of_each (λ text. text) (map (λ text. text) readings) more
  behind readings more = sym (first_unseen (λ text. text) (map (λ text. text) readings) readings more (λ text. refl))

  -- one reading more is not more than the limit
  one_fits : (readings : List (List ℕ)) (reading : List ℕ) → nat_lt (length readings) limit ≡ true
      → length (with_new (λ text. text) readings reading) ≤ limit
  one_fits readings reading fits = grind (arith, nat_tests, length-append readings (reading ∷ []))

  -- readings that are added up to the limit are the first of those that are added without one
  added_first : (readings more : List (List ℕ)) → length readings ≤ limit
      → fold (with_more limit) readings more ≡ take limit (fold (with_new (λ text. text)) readings more)
  added_first readings [] few = sym (take_all limit readings few)
  added_first readings (reading ∷ more) few =
      let firsts = first_of_each (λ text. text) (map (λ text. text) readings) (reading ∷ more) in
      grind (
        arith,
        nat_tests,
        one_fits readings reading,
        added_first (with_new (λ text. text) readings reading) more,
        full_stays readings more,
        behind readings (reading ∷ more),
        take-append-le limit readings firsts,
        take_all limit readings few,
      )

  -- the first of each, up to the limit, are those that are added to none
  pub first_added : (more : List (List ℕ))
      → take limit (first_of_each (λ text. text) [] more) ≡ fold (with_more limit) [] more
  first_added more =
      ap (take limit) (first_of_each-fold (λ text. text) more) ∙ sym (added_first [] more (omega arith))

-- Readings that differ

-- how many of readings stand among others
abbrev known : List (List ℕ) → List (List ℕ) → ℕ
known [] more = 0
known (text ∷ readings) more = cond (has_text more text) (suc (known readings more)) (known readings more)

-- with one more among the others no fewer do
known_more : (readings more : List (List ℕ)) (reading : List ℕ) → known readings more ≤ known readings (reading ∷ more)
known_more [] more reading = omega arith
known_more (text ∷ readings) more reading = grind (arith, known_more readings more reading)

-- and more do where that one is there, and not yet among the others
known_here : (readings more : List (List ℕ)) (reading : List ℕ) → has_text readings reading ≡ true
    → has_text more reading ≡ false → known readings more + 1 ≤ known readings (reading ∷ more)
known_here [] more reading there new = cc
known_here (text ∷ readings) more reading there new =
    grind (
      arith,
      same_equal reading text,
      same_other text reading,
      known_more readings more reading,
      known_here readings more reading,
    )

-- one that is not among the others adds none
known_new : (readings more : List (List ℕ)) (reading : List ℕ) → has_text more reading ≡ false
    → known (readings ++ reading ∷ []) more ≡ known readings more
known_new [] more reading new = rw new refl
known_new (text ∷ readings) more reading new = grind (arith, known_new readings more reading)

-- no more do than there are
known_all : (readings more : List (List ℕ)) → known readings more ≤ length readings
known_all [] more = omega arith
known_all (text ∷ readings) more = grind (arith, known_all readings more)

module _ (limit : ℕ) where
  -- of readings that differ as many are enough as may be added, and as many more as are there already
  enough : (count : ℕ) (readings more : List (List ℕ)) → texts_differ more ≡ true
      → limit + known readings more ≤ count + length readings
      → fold (with_more limit) readings (take count more) ≡ fold (with_more limit) readings more
  enough zero readings [] differ le = refl
  enough (suc count) readings [] differ le = refl
  enough zero readings (reading ∷ more) differ le =
      sym (full_stays limit readings (reading ∷ more) (grind (arith, nat_tests)))
  enough (suc count) readings (reading ∷ more) differ le =
      grind (
        arith,
        nat_tests,
        differ_parts reading more differ,
        texts_stay readings,
        enough count readings more,
        enough count (readings ++ reading ∷ []) more,
        known_here readings more reading,
        known_new readings more reading,
        known_more readings more reading,
        length-append readings (reading ∷ []),
        full_stays limit readings (take count more),
        full_stays limit readings more,
      )

  -- as many as the limit says are always enough
  pub limit_enough : (readings more : List (List ℕ)) → texts_differ more ≡ true
      → fold (with_more limit) readings (take limit more) ≡ fold (with_more limit) readings more
  limit_enough readings more differ = enough limit readings more differ (omega (arith, known_all readings more))

-- what is joined is added one after another
pub among_added : (lists files : List (List (List ℕ))) (prefix : List ℕ)
    → completions_among lists files prefix
    ≡ fold (with_more completion_limit) (fold (with_more completion_limit) [] (readings_in lists))
    (flat_map (filter (goes_on_from prefix)) files)
among_added lists files prefix =
    let filed = flat_map (filter (goes_on_from prefix)) files in
    first_added completion_limit (readings_in lists ++ filed)
    ∙ fold-append (with_more completion_limit) [] (readings_in lists) filed

-- of the readings of lists, which differ in each, as many of each are enough as are given at most
each_enough : (readings : List (List ℕ)) (lists : List (List (List ℕ))) → list_all texts_differ lists ≡ true
    → fold (with_more completion_limit) readings (readings_in (map (take completion_limit) lists))
    ≡ fold (with_more completion_limit) readings (readings_in lists)
each_enough readings [] differ = refl
each_enough readings (list ∷ lists) differ =
    let more = with_more completion_limit in
    let parts = and_parts (texts_differ list) (list_all texts_differ lists) differ in
    fold-append more readings (take completion_limit list) (readings_in (map (take completion_limit) lists))
    ∙ ap (λ those. fold more those (readings_in (map (take completion_limit) lists)))
    (limit_enough completion_limit readings list parts.0)
    ∙ each_enough (fold more readings list) lists parts.1
    ∙ sym (fold-append more readings list (readings_in lists))

-- so they are for what is joined
pub first_enough : (lists files : List (List (List ℕ))) (prefix : List ℕ) → list_all texts_differ lists ≡ true
    → completions_among (map (take completion_limit) lists) files prefix ≡ completions_among lists files prefix
first_enough lists files prefix differ =
    among_added (map (take completion_limit) lists) files prefix
    ∙ ap (λ readings. fold (with_more completion_limit) readings (flat_map (filter (goes_on_from prefix)) files))
    (each_enough [] lists differ)
    ∙ sym (among_added lists files prefix)
