-- Settings: arguments with their values, as words give them.
use Rattle.std.specs.Prelude.{⊤, ◌<◌, ℕ, Bool, true, false, ◌&&◌, ◌==◌, nat_eq, nat_le, if◌then◌else◌, Option, Some}
use Rattle.std.specs.Prelude.{None, List, [], ◌∷◌, ◌++◌, length, unwrap_or, count_by}
use Rattle.std.specs.List.{filter_map, list_all, sum_by}
use Rattle.std.specs.Option.{option_map, option_map_or, option_and_then}
use Rattle.command_line.specs.Arguments.{option_named, value_of, place}
use Rattle.skk_calls.specs.BookLists.{shared_alone}
use Rattle.skk_text.specs.Characters.{code}
use Rattle.command_line.specs.Words.{is_name, cut}
use Rattle.command_line.specs.declared.argument.Argument.{Argument}
use Rattle.command_line.specs.declared.argument.Argument.TheVariants.{File}
use Rattle.command_line.specs.declared.argument.OptionRow.{OptionRow}
use Rattle.command_line.specs.declared.argument.Takes.{Takes}
use Rattle.command_line.specs.declared.argument.Takes.TheVariants as takes
use Rattle.command_line.specs.declared.setting.Setting.{Setting}
use Rattle.command_line.specs.declared.setting.Value.{Value}
use Rattle.command_line.specs.declared.setting.Value.TheVariants.{Nothing, Text, Number, Books}

-- an argument with its value
abbrev pub setting : Argument → Value → Setting
setting argument value = record { argument = argument; value = value }

-- whether an option takes a value
abbrev pub takes_value : Takes → Bool
takes_value takes.Nothing = false
takes_value takes.Name = true
takes_value (takes.Number least most) = true
takes_value takes.Books = true

-- an option by itself, where it takes no value
abbrev pub option_alone : OptionRow → Option Setting
option_alone row = if takes_value row.takes then None else Some (setting row.argument Nothing)

-- an option with a word that is its value
abbrev pub option_with : OptionRow → List ℕ → Option Setting
option_with row word = option_map (setting row.argument) (value_of row.takes word)

-- an option whose spelling and value are the two parts of a word
abbrev pub option_cut : List ℕ × List ℕ → Option Setting
option_cut parts = option_and_then (λ row. option_with row parts.1) (option_named parts.0)

-- a word that spells no option: a file's name, or an option with its value behind `=`
abbrev pub name_or_cut : List ℕ → Option Setting
name_or_cut word =
    if is_name word then Some (setting File (Text word)) else option_and_then option_cut (cut (code "=") word)

-- what a word gives by itself
abbrev pub whole : List ℕ → Option Setting
whole word = option_map_or option_alone (option_named word) (name_or_cut word)

-- the option that a word spells, where its value is the next word
abbrev pub begun : List ℕ → Option OptionRow
begun word = option_and_then (λ row. if takes_value row.takes then Some row else None) (option_named word)

-- a setting before others, where each of them is one
abbrev pub with_setting : Option Setting → Option (List Setting) → Option (List Setting)
with_setting None others = None
with_setting (Some first) None = None
with_setting (Some first) (Some others) = Some (first ∷ others)

-- the settings that words give, where each word is a part of one
abbrev pub settings_of : List (List ℕ) → Option (List Setting)
settings_of [] = Some []
settings_of (word ∷ []) = with_setting (whole word) (Some [])
settings_of (word ∷ next ∷ words) =
    option_map_or (λ row. with_setting (option_with row next) (settings_of words)) (begun word)
    (with_setting (whole word) (settings_of (next ∷ words)))

-- settings, and others behind them, where there are any
abbrev pub joined : List Setting → Option (List Setting) → Option (List Setting)
joined settings others = option_map (λ more. settings ++ more) others

-- words give no settings, or more than 32, which no command takes
abbrev pub AreNoneOrMany : Option (List Setting) → Type 0
AreNoneOrMany None = ⊤
AreNoneOrMany (Some settings) = 32 < length settings

-- whether a setting is of an argument
abbrev pub is_of : Argument → Setting → Bool
is_of argument setting = nat_eq (place setting.argument) (place argument)

-- how often an argument is given
abbrev pub times : Argument → List Setting → ℕ
times argument settings = count_by (is_of argument) settings

-- the text that a value is, if it is one
abbrev pub text_in : Value → Option (List ℕ)
text_in Nothing = None
text_in (Text text) = Some text
text_in (Number number) = None
text_in (Books books) = None

-- the number that a value is, if it is one
abbrev pub number_in : Value → Option ℕ
number_in Nothing = None
number_in (Text text) = None
number_in (Number number) = Some number
number_in (Books books) = None

-- the books that a value is, if it is such
abbrev pub books_in : Value → Option (List ℕ)
books_in Nothing = None
books_in (Text text) = None
books_in (Number number) = None
books_in (Books books) = Some books

-- the text that a setting gives an argument, if it does
abbrev pub text_for : Argument → Setting → Option (List ℕ)
text_for argument setting = if is_of argument setting then text_in setting.value else None

-- the texts of an argument, in their order
abbrev pub texts_of : Argument → List Setting → List (List ℕ)
texts_of argument settings = filter_map (text_for argument) settings

-- the value of an argument, where it is given
abbrev pub value_given : Argument → List Setting → Option Value
value_given argument [] = None
value_given argument (setting ∷ settings) =
    if is_of argument setting then Some setting.value else value_given argument settings

-- the text of an argument, where it is given
abbrev pub text_given : Argument → List Setting → Option (List ℕ)
text_given argument settings = option_and_then text_in (value_given argument settings)

-- the text of an argument that is given
abbrev pub text_of : Argument → List Setting → List ℕ
text_of argument settings = unwrap_or (text_given argument settings) []

-- the number of an argument, where it is given
abbrev pub number_given : Argument → List Setting → Option ℕ
number_given argument settings = option_and_then number_in (value_given argument settings)

-- the number of an argument, or another where it is not given
abbrev pub number_or : ℕ → Argument → List Setting → ℕ
number_or absent argument settings = unwrap_or (number_given argument settings) absent

-- the books of an argument, where they are given
abbrev pub books_given : Argument → List Setting → Option (List ℕ)
books_given argument settings = option_and_then books_in (value_given argument settings)

-- the books of an argument that is given
abbrev pub books_of : Argument → List Setting → List ℕ
books_of argument settings = unwrap_or (books_given argument settings) shared_alone

-- whether an argument is given
abbrev pub is_given : Argument → List Setting → Bool
is_given argument settings = nat_le 1 (times argument settings)

-- a row of what a command takes: an argument, with the least and the most times that it is given
abbrev pub Row : Type 0
Row = Argument × ℕ × ℕ

-- whether the argument of a row is given as often as the row says
abbrev pub is_within : List Setting → Row → Bool
is_within settings row = nat_le row.1 (times row.0 settings) && nat_le (times row.0 settings) row.2

-- whether settings are what rows take: each argument as often as its row says, and none that has no row
abbrev pub fits : List Row → List Setting → Bool
fits rows settings = list_all (is_within settings) rows && sum_by (λ row. times row.0 settings) rows == length settings
