-- The options of a command, as `clap` takes their texts out of its words.
use Rattle.std.specs.Prelude.{◌≡◌, ℕ, Bool, true, ◌&&◌, nat_le, if◌then◌else◌, Option, Some, None, List, [], ◌∷◌, map}
use Rattle.std.specs.Prelude.{codes, encode_utf8_all}
use Rattle.std.specs.Fmt.{decimal}
use Rattle.std.specs.List.{AllByRecursion, list_all}
use Rattle.std.specs.Option.{IfSome, is_some, option_and_then, option_map}
use Rattle.clap.specs.Simple.{new_shape}
use Rattle.clap.specs.Words.{App, Rule, first_value, found_of, new_rule, one_text}
use Rattle.clap.specs.declared.builder.action.ArgAction.{ArgAction}
use Rattle.clap.specs.declared.builder.action.ArgAction.TheVariants.{SetTrue}
use Rattle.clap.specs.declared.parser.matches.ArgMatches.{ArgMatches}
use Rattle.command_line.specs.Arguments.{place, row_at, takes_at, name_at}
use Rattle.command_line.specs.Command.{title, takes}
use Rattle.command_line.specs.Ranges.{LiesFrom}
use Rattle.command_line.specs.Settings.{Row, fits, books_given, is_given, number_given, settings_of, text_given}
use Rattle.command_line.specs.Words.{with_commas}
use Rattle.command_line.specs.declared.argument.Argument.{Argument}
use Rattle.command_line.specs.declared.argument.Takes.{Takes}
use Rattle.command_line.specs.declared.argument.Takes.TheVariants.{Nothing, Name, Number, Books}
use Rattle.command_line.specs.declared.command_name.CommandName.{CommandName}
use Rattle.command_line.specs.declared.setting.Setting.{Setting}

-- what is done where an option is met, if not its value taken: one that has none is a flag
abbrev pub action_of : Takes → Option ArgAction
action_of Nothing = Some SetTrue
action_of Name = None
action_of (Number least most) = None
action_of Books = None

-- the option of an argument, which must be given or need not
abbrev pub option_rule : Argument → Bool → Rule
option_rule argument required = record (new_rule (name_at (place argument))) {
  long = Some (name_at (place argument));
  action = action_of (takes_at (place argument));
  required = required;
}

-- the option of a row
abbrev pub row_rule : Row → Rule
row_rule row = option_rule row.0 (nat_le 1 row.1)

-- a command with an option for each of some rows
abbrev pub app_with : CommandName → List Row → App
app_with name rows =
    record { top = record (new_shape (title name)) { rules = map row_rule rows }; subs = [] }

-- a command with all its options
abbrev pub option_app : CommandName → App
option_app name = app_with name (takes name)

-- whether a row is of an option that is given once at most
abbrev pub is_single : Row → Bool
is_single row = is_some (row_at (place row.0)) && nat_le row.2 1

-- a command takes nothing but options, each once at most
abbrev pub TakesOptions : CommandName → Type 0
TakesOptions name = list_all is_single (takes name) ≡ true

-- settings, where a command takes them
abbrev pub settings_with : CommandName → List Setting → Option (List Setting)
settings_with name settings = if fits (takes name) settings then Some settings else None

-- the settings of the words behind the first, where a command takes them
abbrev pub settings_asked : CommandName → List (List ℕ) → Option (List Setting)
settings_asked name [] = None
settings_asked name (word ∷ words) = option_and_then (settings_with name) (settings_of words)

-- what is found for an option is what settings give it: its text, its number in decimal, which lies in its range, its
-- books with a comma between, or that it is given
abbrev pub GivesTaken : Takes → Argument → List Setting → ArgMatches → Type 0
GivesTaken Nothing argument settings matches =
    one_text (found_of matches) (name_at (place argument))
    ≡ Some (if is_given argument settings then codes "true" else codes "false")
GivesTaken Name argument settings matches =
    first_value (found_of matches) (name_at (place argument))
    ≡ option_map encode_utf8_all (text_given argument settings)
GivesTaken (Number least most) argument settings matches =
    (first_value (found_of matches) (name_at (place argument)) ≡ option_map decimal (number_given argument settings))
    × IfSome (number_given argument settings) (LiesFrom least most)
GivesTaken Books argument settings matches =
    first_value (found_of matches) (name_at (place argument)) ≡ option_map with_commas (books_given argument settings)

-- so it is with each option of a command
abbrev pub GivesOptions : CommandName → List Setting → ArgMatches → Type 0
GivesOptions name settings matches =
    AllByRecursion (λ (row : Row). GivesTaken (takes_at (place row.0)) row.0 settings matches) (takes name)
