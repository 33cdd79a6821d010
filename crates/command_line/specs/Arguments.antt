-- What commands can be given: the table of the options, and the values that they take.
use Rattle.std.specs.Prelude.{ℕ, ◌==◌, if◌then◌else◌, Option, Some, None, List, [], ◌∷◌, drop, find, codes}
use Prim.Native.String.{String}
use Rattle.std.specs.Map.{lookup}
use Rattle.std.specs.Option.{option_map, option_map_or}
use Rattle.std.specs.Str.{bytes_eq}
use Rattle.command_line.specs.Words.{is_name, number_within, books_listed}
use Rattle.command_line.specs.declared.argument.Argument.{Argument}
use Rattle.command_line.specs.declared.argument.Argument.TheVariants.{File, Dictionary, Rules, Learned, Limit, Port}
use Rattle.command_line.specs.declared.argument.Argument.TheVariants.{Connections, Book, Typist, Books, Seed}
use Rattle.command_line.specs.declared.argument.Argument.TheVariants.{Sessions, Lines, Threads, Look, Complete}
use Rattle.command_line.specs.declared.argument.OptionRow.{OptionRow}
use Rattle.command_line.specs.declared.argument.Takes.{Takes}
use Rattle.command_line.specs.declared.argument.Takes.TheVariants as takes
use Rattle.command_line.specs.declared.argument.Takes.TheVariants.{Nothing, Name, Number}
use Rattle.command_line.specs.declared.setting.Value.{Value}
use Rattle.command_line.specs.declared.setting.Value.TheVariants as values

-- a row of the table: how the option is written, the argument that it gives, and what it takes
abbrev pub option : String → Argument → Takes → List ℕ × OptionRow
option spelling argument takes = (codes spelling, record { argument = argument; takes = takes })

-- the table of the options, in which a number has its least and its greatest value
abbrev pub options : List (List ℕ × OptionRow)
options =
    option "--dict" Dictionary Name
    ∷ option "--rules" Rules Name
    ∷ option "--learned" Learned Name
    ∷ option "--limit" Limit (Number 64 268435456)
    ∷ option "--port" Port (Number 1 65535)
    ∷ option "--connections" Connections (Number 1 1000000)
    ∷ option "--book" Book (Number 0 65535)
    ∷ option "--typist" Typist (Number 0 65535)
    ∷ option "--books" Books takes.Books
    ∷ option "--seed" Seed (Number 0 18446744073709551615)
    ∷ option "--sessions" Sessions (Number 1 64)
    ∷ option "--lines" Lines (Number 1 20000)
    ∷ option "--threads" Threads Nothing
    ∷ option "--look" Look Name
    ∷ option "--complete" Complete Name
    ∷ []

-- the option that a word spells
abbrev pub option_named : List ℕ → Option OptionRow
option_named word = lookup (bytes_eq word) options

-- the value that a word is for what an option takes, where it is one
abbrev pub value_of : Takes → List ℕ → Option Value
value_of Nothing word = None
value_of Name word = if is_name word then Some (values.Text word) else None
value_of (Number least most) word = option_map values.Number (number_within least most word)
value_of takes.Books word = option_map values.Books (books_listed word)

-- the place of an argument in their order
abbrev pub place : Argument → ℕ
place File = 0
place Dictionary = 1
place Rules = 2
place Learned = 3
place Limit = 4
place Port = 5
place Connections = 6
place Book = 7
place Typist = 8
place Books = 9
place Seed = 10
place Sessions = 11
place Lines = 12
place Threads = 13
place Look = 14
place Complete = 15

-- the row of the table that gives the argument at a place
abbrev pub row_at : ℕ → Option (List ℕ × OptionRow)
row_at number = find (λ row. place row.1.argument == number) options

-- what the argument at a place takes: a name, where no option gives it
abbrev pub takes_at : ℕ → Takes
takes_at number = option_map_or (λ row. row.1.takes) (row_at number) Name

-- how the option of the argument at a place is spelled behind its two hyphens
abbrev pub name_at : ℕ → List ℕ
name_at number = option_map_or (λ row. drop 2 row.0) (row_at number) []
