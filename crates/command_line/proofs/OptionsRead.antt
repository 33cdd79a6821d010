-- What `clap` finds in the words of a command that takes nothing but options is what the grammar reads there.
use Rattle.std.proofs.Common.{◌≡◌, ◌≤◌, ◌∙◌, ◌&&◌, ◌||◌, ◌==◌, not, sym, ap, subst, refl, arith, ℕ, Bool, true, false}
use Rattle.std.proofs.Common.{Option, Some, None, is_some, List, [], ◌∷◌, ◌++◌, map, codes, fold, length, nat_le}
use Rattle.std.proofs.Common.{if◌then◌else◌, slice_get}
use lib.Utf8.{encode, encodes}
use Rattle.std.specs.Fmt.{decimal}
use Rattle.std.specs.List.{AllByRecursion, list_all, sum_by}
use Rattle.std.specs.Option.{IfSome, option_and_then, option_map, option_map_or, option_or}
use Rattle.std.proofs.lemmas.Bool.{and_from, and_parts}
use Rattle.std.proofs.lemmas.Bool.Decides.{nat_tests}
use Rattle.std.proofs.lemmas.Option.{IfSome_then}
use Rattle.clap.specs.Facts.{explicit_source}
use Rattle.clap.specs.Matches.{found_of}
use Rattle.clap.specs.Simple.{built, filled, filled_from, help_rule, is_simple, matches_of}
use Rattle.clap.specs.Takes.{default_passes}
use Rattle.clap.specs.Takes as clap_takes
use Rattle.clap.specs.Walk.{Row, Rule, Text, nothing_held, row_text, rows_of, walk_from, with_default}
use Rattle.clap.specs.declared.builder.value_parser.Reading.TheVariants.{AsWritten}
use Rattle.clap.specs.declared.parser.matches.ArgMatches.{ArgMatches}
use Rattle.clap.specs.declared.parser.matches.ValueSource.TheVariants.{DefaultValue}
use Rattle.clap.proofs.WalkLemmas.{first_value-rows, one_text-rows}
use Rattle.command_line.specs.Arguments.{place, takes_at, name_at}
use Rattle.command_line.specs.Command.{takes, title}
use Rattle.command_line.specs.OptionLaws.{IfSome-and_then, IfSome-if}
use Rattle.command_line.specs.OptionWords.{option_app, row_rule, settings_asked, settings_with, GivesOptions}
use Rattle.command_line.specs.OptionWords.{GivesTaken, TakesOptions}
use Rattle.command_line.specs.RangeLaws.{AreGiven, IsTaken, are-given, value-given}
use Rattle.command_line.specs.Ranges.{LiesFrom}
use Rattle.command_line.specs.SettingLaws.{AreWritten, written}
use Rattle.command_line.specs.Settings.{Row as TakesRow, fits, is_given, is_within, number_in, setting, settings_of}
use Rattle.command_line.specs.Settings.{books_in, text_in, times, value_given}
use Rattle.command_line.specs.Words.{with_commas}
use Rattle.command_line.specs.declared.argument.Argument.{Argument}
use Rattle.command_line.specs.declared.argument.Takes.{Takes}
use Rattle.command_line.specs.declared.argument.Takes.TheVariants.{Nothing, Name, Number, Books}
use Rattle.command_line.specs.declared.command_name.CommandName.{CommandName}
use Rattle.command_line.specs.declared.command_name.CommandName.TheVariants.{TypeScript, Serve, Check, Dump, Share}
use Rattle.command_line.specs.declared.command_name.CommandName.TheVariants.{Load, Ask, Import}
use Rattle.command_line.specs.declared.setting.Setting.{Setting}
use Rattle.command_line.specs.declared.setting.Value.{Value}
use Rattle.command_line.proofs.OptionCounts.{settings_taken}
use Rattle.command_line.proofs.OptionCounts as counts
use Rattle.command_line.proofs.OptionRows.{defaulted, defaults_of, given-tells, row_for, row_given, row_in, shown}
use Rattle.command_line.proofs.OptionRows.{use_row}
use Rattle.command_line.proofs.OptionWalk.{Follows, IsOption, followed}

-- the options of a command once it is built
abbrev rules_of : CommandName → List Rule
rules_of name = filled_from 1 (map row_rule (takes name) ++ help_rule ∷ [])

-- the row of an option that is not given: that of a flag says so
abbrev absent_row : Takes → Text → Option Row
absent_row Nothing name = Some (record {
  id = name;
  values = codes "false" ∷ [];
  count = None;
  source = Some DefaultValue;
  reading = AsWritten;
})
absent_row Name name = None
absent_row (Number least most) name = None
absent_row Books name = None

abbrev IsAbsent : CommandName → TakesRow → Type 0
IsAbsent name row =
    row_in (name_at (place row.0)) (defaults_of (rules_of name))
    ≡ absent_row (takes_at (place row.0)) (name_at (place row.0))

-- what is computed of a command
record IsKnown (name : CommandName) : Type 0 where
  simple : is_simple (option_app name) ≡ true
  rules : rules_of name ≡ map (λ row. filled (row_rule row)) (takes name) ++ filled help_rule ∷ []
  free : list_all (λ r. r.is_free) (rules_of name) ≡ true
  defaults : list_all default_passes (rules_of name) ≡ true
  few : (number : ℕ) → counts.rows_of number (takes name) ≤ 1
  options : AllByRecursion (λ (row : TakesRow). IsOption (rules_of name) (place row.0) × (row.2 ≤ 1)) (takes name)
  absent : AllByRecursion (IsAbsent name) (takes name)

known : (name : CommandName) → TakesOptions name → IsKnown name
unfolding encode
known TypeScript options = absurd (cc)
known Serve options = absurd (cc)
known Check options = absurd (cc)
known Import options = absurd (cc)
known Dump options = record {
  simple = refl;
  rules = refl;
  free = refl;
  defaults = refl;
  few = λ number. grind (arith, nat_tests);
  options = ((search, omega arith), ((search, omega arith), tt));
  absent = (refl, (refl, tt));
}
known Share options = record {
  simple = refl;
  rules = refl;
  free = refl;
  defaults = refl;
  few = λ number. grind (arith, nat_tests);
  options = ((search, omega arith), ((search, omega arith), ((search, omega arith), ((search, omega arith), tt))));
  absent = (refl, (refl, (refl, (refl, tt))));
}
known Load options = record {
  simple = refl;
  rules = refl;
  free = refl;
  defaults = refl;
  few = λ number. grind (arith, nat_tests);
  options = ((search, omega arith), ((search, omega arith), ((search, omega arith), ((search, omega arith), tt))));
  absent = (refl, (refl, (refl, (refl, tt))));
}
known Ask options = record {
  simple = refl;
  rules = refl;
  free = refl;
  defaults = refl;
  few = λ number. grind (arith, nat_tests);
  options = ((search, omega arith), ((search, omega arith), ((search, omega arith), tt)));
  absent = (refl, (refl, (refl, tt)));
}

-- the rows at the end, and the row of an argument there
abbrev rows-at : CommandName → List Setting → List Row
rows-at name settings = fold with_default (map row_for settings) (rules_of name)

row-at-end : (name : CommandName) (settings : List Setting) (argument : Argument)
    → row_in (name_at (place argument)) (rows-at name settings)
    ≡ option_or (option_map (λ value. row_for (setting argument value)) (value_given argument settings))
    (row_in (name_at (place argument)) (defaults_of (rules_of name)))
row-at-end name settings argument =
    defaulted (name_at (place argument)) (rules_of name) (map row_for settings)
    ∙ ap (λ o. option_or o (row_in (name_at (place argument)) (defaults_of (rules_of name))))
    (row_given argument settings)

-- What is required is there

explicit-there : (name : CommandName) (settings : List Setting) (argument : Argument)
    → is_given argument settings ≡ true
    → clap_takes.is_given (name_at (place argument)) (rows-at name settings) ≡ true
explicit-there name settings argument given =
    ap (λ row. option_map_or (λ r. explicit_source r.source) row false) (row-at-end name settings argument)
    ∙ by (value_given argument settings) (given-tells argument settings ∙ given)
  where
    by : (value : Option Value) → is_some value ≡ true
        → option_map_or (λ r. explicit_source r.source)
        (option_or (option_map (λ v. row_for (setting argument v)) value)
        (row_in (name_at (place argument)) (defaults_of (rules_of name)))) false ≡ true
    by None some = cc
    by (Some value) some = refl

needed : (least times most : ℕ) (given : Bool) → (nat_le least times && nat_le times most) ≡ true
    → (nat_le 1 times ≡ true → given ≡ true) → (not (nat_le 1 least) || given) ≡ true
needed least times most given within there = grind (arith, nat_tests, there)

all-there : (name : CommandName) (settings : List Setting) (rows : List TakesRow)
    → list_all (is_within settings) rows ≡ true
    → list_all (λ a. not a.required || clap_takes.is_given a.id (rows-at name settings))
    (map (λ row. filled (row_rule row)) rows ++ filled help_rule ∷ []) ≡ true
all-there name settings [] within = refl
all-there name settings (row ∷ rows) within =
    let parts = and_parts (is_within settings row) (list_all (is_within settings) rows) within in
    and_from (not (nat_le 1 row.1) || clap_takes.is_given (name_at (place row.0)) (rows-at name settings))
    (list_all (λ a. not a.required || clap_takes.is_given a.id (rows-at name settings))
    (map (λ r. filled (row_rule r)) rows ++ filled help_rule ∷ []))
    (needed row.1 (times row.0 settings) row.2 _ parts.0 (explicit-there name settings row.0))
    (all-there name settings rows parts.1)

-- words that are followed are taken
taken : (name : CommandName) (first : Text) (words : List Text) (settings : List Setting) → IsKnown name
    → Follows (title name) (rules_of name) (walk_from nothing_held) words (map row_for settings)
    → list_all (is_within settings) (takes name) ≡ true
    → clap_takes.takes (option_app name) (first ∷ words) ≡ true
taken name first words settings k f within =
    let required =
    ap (list_all (λ a. not a.required || clap_takes.is_given a.id (rows-at name settings))) k.rules
    ∙ all-there name settings (takes name) within in
    let app = option_app name in
    and_from (is_simple app) (clap_takes.built_takes (built app) nothing_held words) k.simple
    (rw (f.unstopped, f.passes, f.settles, k.defaults, f.rows_are, k.free, required))

-- What is found

-- what the row of an option tells is what is given
abbrev Tells : Takes → Option Value → Option Row → Type 0
Tells Nothing value row = option_and_then row_text row ≡ Some (if is_some value then codes "true" else codes "false")
Tells Name value row =
    option_and_then (λ r. slice_get r.values 0) row ≡ option_map encodes (option_and_then text_in value)
Tells (Number least most) value row =
    (option_and_then (λ r. slice_get r.values 0) row ≡ option_map decimal (option_and_then number_in value))
    × IfSome (option_and_then number_in value) (LiesFrom least most)
Tells Books value row =
    option_and_then (λ r. slice_get r.values 0) row ≡ option_map with_commas (option_and_then books_in value)

tells : (taken : Takes) (name : Text) (value : Option Value) → IfSome value (IsTaken taken)
    → Tells taken value (option_or (option_map (λ v. use_row name (shown v)) value) (absent_row taken name))
tells Nothing name None is = refl
tells Name name None is = refl
tells (Number least most) name None is = (refl, tt)
tells Books name None is = refl
tells Nothing name (Some value) is = ap (λ v. Some (shown v)) is
tells Name name (Some value) is = subst (λ v. Some (shown v) ≡ option_map encodes (text_in v)) (sym is.1) refl
tells (Number least most) name (Some value) is =
    subst (λ v. (Some (shown v) ≡ option_map decimal (number_in v)) × IfSome (number_in v) (LiesFrom least most))
    (sym is.1) (refl, is.2)
tells Books name (Some value) is =
    subst (λ v. Some (shown v) ≡ option_map with_commas (books_in v)) (sym is.1) refl

as-found : (taken : Takes) (argument : Argument) (settings : List Setting) (m : ArgMatches)
    → Tells taken (value_given argument settings) (row_in (name_at (place argument)) (rows_of (found_of m)))
    → GivesTaken taken argument settings m
as-found Nothing argument settings m is =
    one_text-rows (found_of m) (name_at (place argument)) ∙ is
    ∙ ap (λ b. Some (if b then codes "true" else codes "false")) (given-tells argument settings)
as-found Name argument settings m is = first_value-rows (found_of m) (name_at (place argument)) ∙ is
as-found (Number least most) argument settings m is =
    (first_value-rows (found_of m) (name_at (place argument)) ∙ is.0, is.1)
as-found Books argument settings m is = first_value-rows (found_of m) (name_at (place argument)) ∙ is

gives-all : (name : CommandName) (settings : List Setting) (m : ArgMatches) (rows : List TakesRow) → AreGiven settings
    → AllByRecursion (IsAbsent name) rows → rows_of (found_of m) ≡ rows-at name settings
    → AllByRecursion (λ (row : TakesRow). GivesTaken (takes_at (place row.0)) row.0 settings m) rows
gives-all name settings m [] given absent is = tt
gives-all name settings m (row ∷ rows) given absent is =
    let id = name_at (place row.0) in
    let value = value_given row.0 settings in
    let found : row_in id (rows_of (found_of m)) ≡ _ =
    ap (row_in id) is ∙ row-at-end name settings row.0
    ∙ ap (option_or (option_map (λ v. row_for (setting row.0 v)) value)) absent.0 in (
      as-found (takes_at (place row.0)) row.0 settings m
          (subst (Tells (takes_at (place row.0)) value) (sym found)
          (tells (takes_at (place row.0)) id value (value-given row.0 settings given))),
      gives-all name settings m rows given absent.1 is,
    )

-- `clap` takes the words, and what it finds for the options is what the settings give
pub record IsRead (name : CommandName) (words : List Text) (settings : List Setting) : Type 0 where
  pub simple : is_simple (option_app name) ≡ true
  pub taken : clap_takes.takes (option_app name) words ≡ true
  pub gives : (m : ArgMatches) → rows_of (found_of m) ≡ matches_of (option_app name) words
      → GivesOptions name settings m

read-so : (name : CommandName) (first : Text) (words : List (List ℕ)) (settings : List Setting) → TakesOptions name
    → AreWritten words settings → fits (takes name) settings ≡ true
    → IsRead name (first ∷ map encodes words) settings
read-so name first words settings options is fit =
    let k = known name options in
    let rules = rules_of name in
    let within = (and_parts (list_all (is_within settings) (takes name))
    (sum_by (λ row. times row.0 settings) (takes name) == length settings) fit).0 in
    let f : Follows (title name) rules (walk_from nothing_held) (map encodes words) (map row_for settings) =
    followed (title name) rules is [] [] None (record { rows_are = refl; passes = refl })
    (settings_taken rules settings (takes name) k.few k.options fit) in
    record {
      simple = k.simple;
      taken = taken name first (map encodes words) settings k f within;
      gives = λ m rows. gives-all name settings m (takes name) (are-given is) k.absent
          (rows ∙ ap (λ found. fold with_default found rules) f.rows_are);
    }

-- so it is with the words of each command that takes nothing but options
pub is_read : (name : CommandName) (words : List (List ℕ)) → TakesOptions name
    → IfSome (settings_asked name words) (IsRead name (map encodes words))
is_read name [] options = tt
is_read name (word ∷ words) options =
    let P = IsRead name (encodes word ∷ map encodes words) in
    IfSome-and_then P (settings_with name) (settings_of words)
    (IfSome_then (settings_of words) (written words) (λ settings is.
    IfSome-if P (fits (takes name) settings) settings
    (λ fit. read-so name (encodes word) words settings options is fit)))
