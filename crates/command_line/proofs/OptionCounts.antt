-- Settings that fit rows of options: each of them has a row, and stands once.
use Rattle.std.proofs.Common.{◌≡◌, ◌≤◌, ◌+◌, ◌∙◌, ◌==◌, sym, ap, subst, refl, arith, inl, inr, cond, ℕ, Bool}
use Rattle.std.proofs.Common.{true, List, [], ◌∷◌, ◌++◌, append_assoc, length, map, nat_le}
use Rattle.std.specs.List.{AllByRecursion, count_by, list_all, sum_by}
use Rattle.std.proofs.lemmas.Bool.{and_parts, cases_Bool, eq-eqb, eqb-true, leb-true}
use Rattle.std.proofs.lemmas.List.{map-append}
use Rattle.std.proofs.lemmas.List.Sums.{sum_by-append, sum_by-cons}
use Rattle.clap.specs.Walk.{Rule}
use Rattle.command_line.specs.Arguments.{place}
use Rattle.command_line.specs.Settings.{Row, fits, is_of, is_within, times}
use Rattle.command_line.specs.declared.setting.Setting.{Setting}
use Rattle.command_line.proofs.OptionRows.{has_given, row_for}
use Rattle.command_line.proofs.OptionWalk.{AreTaken, IsOption}

-- how many rows have the argument at a place
abbrev pub rows_of : ℕ → List Row → ℕ
rows_of number rows = count_by (λ (row : Row). number == place row.0) rows

-- how often settings give the arguments of rows
abbrev total : List Setting → List Row → ℕ
total settings rows = sum_by (λ (row : Row). times row.0 settings) rows

-- how often they give the argument at a place
abbrev times_at : ℕ → List Setting → ℕ
times_at number settings = count_by (λ (s : Setting). place s.argument == number) settings

one-if : (b c : Bool) → b ≡ c → ◌≡◌ {A = ℕ} (cond b 1 0) (cond c 1 0)
one-if b c e = ap {B = ℕ} (λ (x : Bool). cond x 1 0) e

-- a setting more is counted by its rows
one-more : (given : Setting) (settings : List Setting) (rows : List Row)
    → total (given ∷ settings) rows ≡ rows_of (place given.argument) rows + total settings rows
one-more given settings [] = refl
one-more given settings (row ∷ rows) =
    omega (
      arith,
      one-more given settings rows,
      sum_by-cons (λ (r : Row). times r.0 (given ∷ settings)) row rows,
      sum_by-cons (λ (r : Row). times r.0 settings) row rows,
      sum_by-cons (λ (r : Row). cond (is_of r.0 given) 1 0) row rows,
      sum_by-cons (λ s. cond (is_of row.0 s) 1 0) given settings,
    )

no-more : (rows : List Row) → total [] rows ≡ 0
no-more [] = refl
no-more (row ∷ rows) = omega (arith, no-more rows, sum_by-cons (λ (r : Row). times r.0 []) row rows)

-- settings are no fewer than the rows count, and where they are no more, each of them has a row
record AreCounted (settings : List Setting) (rows : List Row) : Type 0 where
  bound : total settings rows ≤ length settings
  each : total settings rows ≡ length settings
      → AllByRecursion (λ (s : Setting). rows_of (place s.argument) rows ≡ 1) settings

counted : (rows : List Row) → ((number : ℕ) → rows_of number rows ≤ 1) → (settings : List Setting)
    → AreCounted settings rows
counted rows few [] = record { bound = omega (arith, no-more rows); each = λ full. tt }
counted rows few (given ∷ settings) =
    let rest = counted rows few settings in
    let more = one-more given settings rows in
    let bound = rest.bound in
    let one = few (place given.argument) in
    record {
      bound = omega (arith, more, bound, one);
      each = λ full. (omega (arith, full, more, bound, one), rest.each (omega (arith, full, more, bound, one)));
    }

-- an argument that has a row is that of an option, and is given once at most
of-row : (rules : List Rule) (settings : List Setting) (number : ℕ) (rows : List Row)
    → AllByRecursion (λ (row : Row). IsOption rules (place row.0) × (row.2 ≤ 1)) rows
    → list_all (is_within settings) rows ≡ true → rows_of number rows ≡ 1
    → IsOption rules number × (times_at number settings ≤ 1)
of-row rules settings number [] all within one = absurd (omega (arith, one))
of-row rules settings number (row ∷ rows) all within one =
    let parts = and_parts (is_within settings row) (list_all (is_within settings) rows) within in
    let bounds = and_parts (nat_le row.1 (times row.0 settings)) (nat_le (times row.0 settings) row.2) parts.0 in
    let counts = sum_by-cons (λ (r : Row). cond (number == place r.0) 1 0) row rows in
    elim (cases_Bool (number == place row.0)) [
      | inl own ↦
          subst (λ n. IsOption rules n × (times_at n settings ≤ 1)) (sym (eqb-true number (place row.0) own))
          (all.0.0, omega (arith, all.0.1, leb-true (times row.0 settings) row.2 bounds.1))
      | inr other ↦ of-row rules settings number rows all.1 parts.1 (omega (arith, one, counts, one-if _ _ other))
    ]

-- so each setting is the first of its argument
taken : (rules : List Rule) (rows : List Row) (all before settings : List Setting)
    → AllByRecursion (λ (row : Row). IsOption rules (place row.0) × (row.2 ≤ 1)) rows
    → list_all (is_within all) rows ≡ true → all ≡ before ++ settings
    → AllByRecursion (λ (s : Setting). rows_of (place s.argument) rows ≡ 1) settings
    → AreTaken rules (map row_for before) settings
taken rules rows all before [] options within is each = tt
taken rules rows all before (given ∷ settings) options within is each =
    let number = place given.argument in
    let own = of-row rules all number rows options within each.0 in
    let few = subst (λ l. times_at number l ≤ 1) is own.1 in
    let none : times_at number before ≡ 0 =
    omega (
      arith,
      few,
      sum_by-append (λ (s : Setting). cond (place s.argument == number) 1 0) before (given ∷ settings),
      sum_by-cons (λ (s : Setting). cond (place s.argument == number) 1 0) given settings,
      one-if _ _ (eq-eqb number number refl),
    ) in (
      own.0,
      has_given given.argument before ∙ ap (nat_le 1) none,
      subst (λ l. AreTaken rules l settings) (map-append row_for before (given ∷ []))
          (taken rules rows all (before ++ given ∷ []) settings options within
          (is ∙ sym (append_assoc before (given ∷ []) settings)) each.1),
    )

pub settings_taken : (rules : List Rule) (settings : List Setting) (rows : List Row)
    → ((number : ℕ) → rows_of number rows ≤ 1)
    → AllByRecursion (λ (row : Row). IsOption rules (place row.0) × (row.2 ≤ 1)) rows → fits rows settings ≡ true
    → AreTaken rules [] settings
settings_taken rules settings rows few options fit =
    let parts = and_parts (list_all (is_within settings) rows) (total settings rows == length settings) fit in
    taken rules rows settings [] settings options parts.0 refl
    ((counted rows few settings).each (eqb-true (total settings rows) (length settings) parts.1))
