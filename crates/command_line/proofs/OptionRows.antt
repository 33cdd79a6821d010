-- What `clap` finds in the words of options: a row for each setting, in their order, and the defaults of those that are
-- not given.
use Rattle.std.proofs.Common.{◌≡◌, ◌∙◌, ◌==◌, sym, ap, refl, arith, cond, Bool, true, false, Option, Some, None}
use Rattle.std.proofs.Common.{List, [], ◌∷◌, ◌++◌, map, codes, fold, is_some}
use lib.Utf8.{encodes}
use Rattle.std.specs.Fmt.{decimal}
use Rattle.std.specs.List.{find, flat_map}
use Rattle.std.specs.Option.{option_map, option_map_or, option_or}
use Rattle.std.specs.Str.{bytes_eq}
use Rattle.std.proofs.lemmas.Bool.{cond_both, eqb-true}
use Rattle.std.proofs.lemmas.Bool.Decides.{nat_tests}
use Rattle.std.proofs.lemmas.List.{append-nil}
use Rattle.std.proofs.lemmas.List.Folds.{find-append}
use Rattle.std.proofs.lemmas.List.Sums.{sum_by-cons}
use Rattle.std.proofs.lemmas.Slice.Eq.{bytes_eq-Decides}
use Rattle.clap.specs.Walk.{Row, Rule, Text, at_row, default_rows, has_row, more_values, reading_by, with_default}
use Rattle.clap.specs.Walk.{with_values, without}
use Rattle.clap.specs.declared.builder.value_parser.Reading.{Reading}
use Rattle.clap.specs.declared.builder.value_parser.Reading.TheVariants.{AsWritten}
use Rattle.clap.specs.declared.parser.matches.ValueSource.TheVariants.{CommandLine, DefaultValue}
use Rattle.command_line.specs.Arguments.{option_named, place, name_at}
use Rattle.command_line.specs.Settings.{is_given, is_of, setting, value_given}
use Rattle.command_line.specs.Words.{with_commas}
use Rattle.command_line.specs.declared.argument.Argument.{Argument}
use Rattle.command_line.specs.declared.setting.Setting.{Setting}
use Rattle.command_line.specs.declared.setting.Value.{Value}
use Rattle.command_line.specs.declared.setting.Value.TheVariants.{Nothing, Text as Name, Number, Books}

-- the text that stands for a value in a row
abbrev pub shown : Value → Text
shown Nothing = codes "true"
shown (Name text) = encodes text
shown (Number number) = decimal number
shown (Books books) = with_commas books

-- the row of a use of an option
abbrev pub use_row : Text → Text → Row
use_row name text =
    record { id = name; values = text ∷ []; count = None; source = Some CommandLine; reading = AsWritten }

-- the row of a setting
abbrev pub row_for : Setting → Row
row_for given = use_row (name_at (place given.argument)) (shown given.value)

-- the row of an id
abbrev pub row_in : Text → List Row → Option Row
row_in id rows = find (λ r. bytes_eq r.id id) rows

absent : (id : Text) (change : Row → List Row) (missing rows : List Row) → has_row id rows ≡ false
    → at_row id change missing rows ≡ rows ++ missing
absent id change missing [] none = refl
absent id change missing (r ∷ rs) none = grind (arith, absent id change missing rs)

-- the first use of an option is a row more
pub used_row : (id text shows : Text) (rows : List Row) → text ≡ shows → has_row id rows ≡ false
    → with_values id AsWritten CommandLine (text ∷ []) (without id rows) ≡ rows ++ use_row id shows ∷ []
used_row id text shows rows same new =
    ap (with_values id AsWritten CommandLine (text ∷ [])) (absent id (λ _. []) [] rows new ∙ append-nil rows)
    ∙ absent id (more_values CommandLine (text ∷ [])) (use_row id text ∷ []) rows new
    ∙ ap (λ t. rows ++ use_row id t ∷ []) same

-- two names are alike exactly where they are of one argument: the option that a name spells leads back
spelled-back : (argument : Argument)
    → option_map_or (λ row. place row.argument) (option_named (45 ∷ 45 ∷ name_at (place argument))) 0 ≡ place argument
spelled-back argument = grind arith

names_tell : (a b : Argument) → bytes_eq (name_at (place a)) (name_at (place b)) ≡ (place a == place b)
names_tell a b =
    grind (
      arith,
      (bytes_eq-Decides (name_at (place a)) (name_at (place b))).0,
      (bytes_eq-Decides (name_at (place a)) (name_at (place b))).1,
      spelled-back a,
      spelled-back b,
    )

-- the row of an argument is that of its value
pub row_given : (argument : Argument) (settings : List Setting)
    → row_in (name_at (place argument)) (map row_for settings)
    ≡ option_map (λ value. row_for (setting argument value)) (value_given argument settings)
row_given argument [] = refl
row_given argument (first ∷ settings) =
    ap (λ b. cond b (Some (row_for first)) (row_in (name_at (place argument)) (map row_for settings)))
    (names_tell first.argument argument)
    ∙ by (is_of argument first) (eqb-true (place first.argument) (place argument)) (row_given argument settings)
  where
    by : (own : Bool) → (own ≡ true → place first.argument ≡ place argument)
        → row_in (name_at (place argument)) (map row_for settings)
        ≡ option_map (λ value. row_for (setting argument value)) (value_given argument settings)
        → cond own (Some (row_for first)) (row_in (name_at (place argument)) (map row_for settings))
        ≡ option_map (λ value. row_for (setting argument value))
        (cond own (Some first.value) (value_given argument settings))
    by true same rest = ap (λ number. Some (use_row (name_at number) (shown first.value))) (same refl)
    by false same rest = rest

pub given-tells : (argument : Argument) (settings : List Setting)
    → is_some (value_given argument settings) ≡ is_given argument settings
given-tells argument [] = refl
given-tells argument (first ∷ settings) =
    grind (
      arith,
      nat_tests,
      sum_by-cons (λ (s : Setting). cond (is_of argument s) 1 0) first settings,
      given-tells argument settings,
    )

has-is : (id : Text) (rows : List Row) → has_row id rows ≡ is_some (row_in id rows)
has-is id [] = refl
has-is id (r ∷ rs) = grind (arith, has-is id rs)

some-map : {X Y : Type 0} (f : X → Y) (o : Option X) → is_some (option_map f o) ≡ is_some o
some-map f None = refl
some-map f (Some x) = refl

-- there is one exactly where the argument is given
pub has_given : (argument : Argument) (settings : List Setting)
    → has_row (name_at (place argument)) (map row_for settings) ≡ is_given argument settings
has_given argument settings =
    has-is (name_at (place argument)) (map row_for settings) ∙ ap is_some (row_given argument settings)
    ∙ some-map (λ value. row_for (setting argument value)) (value_given argument settings)
    ∙ given-tells argument settings

-- the row that an option's default values make
abbrev default : Rule → List Row
default rule = default_rows rule.id (reading_by rule) rule.defaults []

-- those of options
abbrev pub defaults_of : List Rule → List Row
defaults_of rules = flat_map default rules

or-none : (o : Option Row) → o ≡ option_or o None
or-none None = refl
or-none (Some r) = refl

one-default : (id : Text) (how : Reading) (own : Text) (texts : List Text) (rows : List Row)
    → row_in id (cond (has_row own rows) rows (default_rows own how texts rows))
    ≡ option_or (row_in id rows) (row_in id (default_rows own how texts []))
one-default id how own [] rows =
    cond_both (has_row own rows) rows rows (λ l. row_in id l ≡ option_or (row_in id rows) None)
    (λ _. or-none (row_in id rows)) (λ _. or-none (row_in id rows))
one-default id how own (text ∷ texts) rows =
    grind (
      arith,
      has-is own rows,
      (bytes_eq-Decides own id).0,
      absent own (more_values DefaultValue (text ∷ texts)) (default_rows own how (text ∷ texts) []) rows,
      find-append (λ (r : Row). bytes_eq r.id id) rows (default_rows own how (text ∷ texts) []),
    )

or-or : (a b c : Option Row) → option_or (option_or a b) c ≡ option_or a (option_or b c)
or-or None b c = refl
or-or (Some r) b c = refl

-- the row of an id once the options' defaults stand in: a row that is there stays
pub defaulted : (id : Text) (rules : List Rule) (rows : List Row)
    → row_in id (fold with_default rows rules) ≡ option_or (row_in id rows) (row_in id (defaults_of rules))
defaulted id [] rows = or-none (row_in id rows)
defaulted id (rule ∷ rules) rows =
    defaulted id rules (with_default rows rule)
    ∙ ap (λ o. option_or o (row_in id (defaults_of rules)))
    (one-default id (reading_by rule) rule.id rule.defaults rows)
    ∙ or-or (row_in id rows) (row_in id (default rule)) (row_in id (defaults_of rules))
    ∙ ap (option_or (row_in id rows))
    (sym (find-append (λ (r : Row). bytes_eq r.id id) (default rule) (defaults_of rules)))
