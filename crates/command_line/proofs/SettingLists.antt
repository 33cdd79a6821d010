-- Lists of settings: how often an argument is given, and what rows of arguments allow.
use Rattle.std.proofs.Common.{◌≡◌, ◌<◌, ◌≤◌, ◌+◌, ◌∙◌, ◌&&◌, ◌==◌, ◌⊎◌, sym, ap, ℕ, Bool, true, false, if◌then◌else◌}
use Rattle.std.proofs.Common.{cond, None, Some, List, [], ◌∷◌, ◌++◌, length, take, get_or, arith, inl, inr, nat_le}
use Rattle.std.specs.List.{list_all, sum_by, cons_option}
use Rattle.std.proofs.lemmas.Bool.{and_parts, and_from, false_from_ne_true, leb-true}
use Rattle.std.proofs.lemmas.Bool.Decides.{nat_tests}
use Rattle.std.proofs.lemmas.List.{take_more, take_all, length_push}
use Rattle.std.proofs.lemmas.List.Elements.{filter_map-append}
use Rattle.std.proofs.lemmas.List.Folds.{list_all_more}
use Rattle.std.proofs.lemmas.List.Sums.{sum_by-cons, sum_by_more, sum_by-take-le, AllPass-from_list_all}
use Rattle.command_line.specs.Settings.{Row, is_of, times, text_in, text_for, texts_of, is_within, fits}
use Rattle.command_line.specs.declared.argument.Argument.{Argument}
use Rattle.command_line.specs.declared.setting.Setting.{Setting}
use Rattle.command_line.specs.declared.setting.Value.{Value}
use Rattle.command_line.specs.declared.setting.Value.TheVariants.{Nothing, Text, Number, Books}

-- an argument has no more texts than it is given times
one-text : (b : Bool) (value : Value) (texts : List (List ℕ)) (count : ℕ) → length texts ≤ count
    → length (cons_option (if b then text_in value else None) texts) ≤ (if b then 1 else 0) + count
one-text true Nothing texts count few = omega arith
one-text true (Text text) texts count few = omega arith
one-text true (Number number) texts count few = omega arith
one-text true (Books books) texts count few = omega arith
one-text false value texts count few = omega arith

pub texts-few : (argument : Argument) (settings : List Setting)
    → length (texts_of argument settings) ≤ times argument settings
texts-few argument [] = omega arith
texts-few argument (setting ∷ settings) =
    omega (
      arith,
      one-text (is_of argument setting) setting.value (texts_of argument settings) (times argument settings)
          (texts-few argument settings),
      sum_by-cons (λ s. cond (is_of argument s) 1 0) setting settings,
    )

-- a setting more
pub texts-more : (argument : Argument) (settings : List Setting) (place : ℕ) (setting : Setting)
    → place < length settings → setting ≡ get_or settings place setting
    → texts_of argument (take (place + 1) settings)
    ≡ texts_of argument (take place settings) ++ cons_option (text_for argument setting) []
texts-more argument settings place setting within at =
    ap (texts_of argument) (take_more settings place setting within)
    ∙ filter_map-append (text_for argument) (take place settings) (get_or settings place setting ∷ [])
    ∙ ap (λ s. texts_of argument (take place settings) ++ cons_option (text_for argument s) []) (sym at)

-- more texts than there is room for are more settings
pub texts-many : (argument : Argument) (settings : List Setting) (texts : List (List ℕ)) (place : ℕ) (setting : Setting)
    (text : List ℕ) → place < length settings → setting ≡ get_or settings place setting
    → texts ≡ texts_of argument (take place settings) → text_for argument setting ≡ Some text → length texts ≡ 16
    → 16 < times argument settings
texts-many argument settings texts place setting text within at so_far one full =
    let more : texts_of argument (take (place + 1) settings) ≡ texts ++ text ∷ [] =
    texts-more argument settings place setting within at
    ∙ ap (λ t. t ++ cons_option (text_for argument setting) []) (sym so_far)
    ∙ ap (λ o. texts ++ cons_option o []) one in
    omega (
      arith,
      length_push texts text,
      ap length more,
      texts-few argument (take (place + 1) settings),
      sum_by-take-le (λ s. cond (is_of argument s) 1 0) settings (place + 1),
    )

-- settings that fit rows are no more than the rows allow
within-most : (settings : List Setting) (rows : List Row) → list_all (is_within settings) rows ≡ true
    → sum_by (λ row. times row.0 settings) rows ≤ sum_by (λ row. row.2) rows
within-most settings [] all = omega arith
within-most settings (row ∷ rows) all =
    grind (
      arith,
      within-most settings rows,
      leb-true (times row.0 settings) row.2,
      sum_by-cons (λ (r : Row). times r.0 settings) row rows,
      sum_by-cons (λ (r : Row). r.2) row rows,
    )

pub fits-few : (rows : List Row) (settings : List Setting) → fits rows settings ≡ true
    → length settings ≤ sum_by (λ row. row.2) rows
fits-few rows settings fit = grind (arith, within-most settings rows)

-- rows are kept so far, by their counts
pub record AreKept (settings : List Setting) (rows : List Row) (counted : ℕ) : Type 0 where
  pub all : list_all (is_within settings) rows ≡ true
  pub sum : counted ≡ sum_by (λ row. times row.0 settings) rows

-- a row more
pub one_more_row : (settings : List Setting) (rows : List Row) (place counted count : ℕ) (row : Row)
    → AreKept settings (take place rows) counted → place < length rows → get_or rows place row ≡ row
    → count ≡ times row.0 settings → row.1 ≤ count → count ≤ row.2
    → AreKept settings (take (place + 1) rows) (counted + count)
one_more_row settings rows place counted count row kept within at e above below =
    let passes : is_within settings row ≡ true = grind (arith, nat_tests) in
    record {
      all =
          list_all_more (is_within settings) rows place row within
          ∙ and_from (list_all (is_within settings) (take place rows)) (is_within settings (get_or rows place row))
          kept.all (ap (is_within settings) at ∙ passes);
      sum = omega (
        arith,
        kept.sum,
        sum_by_more (λ r. times r.0 settings) rows place row within,
        ap (λ (r : Row). times r.0 settings) at,
      );
    }

-- all rows
pub all_rows : (settings : List Setting) (rows : List Row) (place counted : ℕ)
    → AreKept settings (take place rows) counted → length rows ≤ place
    → (counted == length settings) ≡ fits rows settings
all_rows settings rows place counted kept end =
    let whole = take_all place rows end in
    let all : list_all (is_within settings) rows ≡ true = ap (list_all (is_within settings)) (sym whole) ∙ kept.all in
    let sum : counted ≡ sum_by (λ row. times row.0 settings) rows =
    kept.sum ∙ ap (sum_by (λ row. times row.0 settings)) whole in
    ap (λ n. n == length settings) sum
    ∙ ap (λ b. b && sum_by (λ row. times row.0 settings) rows == length settings) (sym all)

-- a row that is not kept
pub row-broken : (settings : List Setting) (rows : List Row) (place : ℕ) (row : Row) → place < length rows
    → get_or rows place row ≡ row → (times row.0 settings < row.1) ⊎ (row.2 < times row.0 settings)
    → false ≡ fits rows settings
row-broken settings rows place row within at out =
    sym (false_from_ne_true (fits rows settings) (λ fit.
    let all =
    (and_parts (list_all (is_within settings) rows) (sum_by (λ r. times r.0 settings) rows == length settings) fit).0 in
    let passes : is_within settings row ≡ true =
    sym (ap (is_within settings) at) ∙ AllPass-from_list_all (is_within settings) rows all place row within in
    let bounds = and_parts (nat_le row.1 (times row.0 settings)) (nat_le (times row.0 settings) row.2) passes in
    elim out [
      | inl less ↦ omega (arith, leb-true row.1 (times row.0 settings) bounds.0)
      | inr more ↦ omega (arith, leb-true (times row.0 settings) row.2 bounds.1)
    ]))
