-- The commands, and the words that they are read from.
use Rattle.std.specs.Prelude.{ℕ, ◌+◌, ◌==◌, ◌&&◌, Bool, true, if◌then◌else◌, unwrap_or, Option, None, Some, List, []}
use Rattle.std.specs.Prelude.{◌∷◌, codes, map}
use Rattle.std.specs.Map.{lookup}
use Rattle.std.specs.Option.{option_and_then, option_map, option_or}
use Rattle.std.specs.Str.{bytes_eq}
use Rattle.command_line.specs.Expr.{expr_of}
use Rattle.command_line.specs.Settings.{Row, fits, settings_of, texts_of, text_given, text_of, number_given, number_or}
use Rattle.command_line.specs.Settings.{books_of, is_given, times}
use Rattle.command_line.specs.Words.{is_askable}
use Rattle.command_line.specs.declared.argument.Argument.{Argument}
use Rattle.command_line.specs.declared.argument.Argument.TheVariants.{File, Dictionary, Rules, Learned, Limit, Port}
use Rattle.command_line.specs.declared.argument.Argument.TheVariants.{Connections, Book, Typist, Books, Seed}
use Rattle.command_line.specs.declared.argument.Argument.TheVariants.{Sessions, Lines, Threads, Look, Complete}
use Rattle.command_line.specs.declared.command.Command.{Command}
use Rattle.command_line.specs.declared.command.Command.TheVariants.{Alone, Waiting}
use Rattle.command_line.specs.declared.command.AloneCommand.TheVariants as alone
use Rattle.command_line.specs.declared.command.WaitingCommand.TheVariants as waiting
use Rattle.command_line.specs.declared.command_name.CommandName.{CommandName}
use Rattle.command_line.specs.declared.command_name.CommandName.TheVariants.{TypeScript, Serve, Check, Dump, Share}
use Rattle.command_line.specs.declared.command_name.CommandName.TheVariants.{Load, Ask, Import}
use Rattle.command_line.specs.declared.command.AskOptions.{AskOptions}
use Rattle.command_line.specs.declared.command.DumpOptions.{DumpOptions}
use Rattle.command_line.specs.declared.command.ImportOptions.{ImportOptions}
use Rattle.command_line.specs.declared.command.LoadOptions.{LoadOptions}
use Rattle.command_line.specs.declared.command.Question.{Question}
use Rattle.command_line.specs.declared.command.Question.TheVariants as questions
use Rattle.command_line.specs.declared.command.ServeOptions.{ServeOptions}
use Rattle.command_line.specs.declared.command.ShareOptions.{ShareOptions}
use Rattle.command_line.specs.declared.command.TypeOptions.{TypeOptions}
use Rattle.command_line.specs.declared.setting.Setting.{Setting}

-- the word that names a command
abbrev pub title : CommandName → List ℕ
title TypeScript = codes "type"
title Serve = codes "serve"
title Check = codes "check"
title Dump = codes "dump"
title Share = codes "share"
title Load = codes "load"
title Ask = codes "ask"
title Import = codes "import"

-- the words that name commands
abbrev pub command_names : List (List ℕ × CommandName)
command_names =
    map (λ name. (title name, name)) (TypeScript ∷ Serve ∷ Check ∷ Dump ∷ Share ∷ Load ∷ Ask ∷ Import ∷ [])

-- the command that a word names
abbrev pub command_named : List ℕ → Option CommandName
command_named word = lookup (bytes_eq word) command_names

-- an argument that may be given so many times
abbrev pub up_to : ℕ → Argument → Row
up_to most argument = (argument, 0, most)

-- an argument that may be given once
abbrev pub optional : Argument → Row
optional argument = (argument, 0, 1)

-- an argument that must be given, once
abbrev pub required : Argument → Row
required argument = (argument, 1, 1)

-- what each command takes
abbrev pub takes : CommandName → List Row
takes TypeScript = up_to 16 Dictionary ∷ optional Rules ∷ optional Learned ∷ optional Limit ∷ optional Threads ∷ []
takes Serve =
    required Learned ∷ up_to 16 Dictionary ∷ optional Rules ∷ optional Limit ∷ optional Port ∷ optional Connections ∷ []
takes Check = required File ∷ []
takes Dump = required Learned ∷ optional Book ∷ []
takes Share = required Learned ∷ required Typist ∷ required Books ∷ optional Limit ∷ []
takes Load = required Seed ∷ required Sessions ∷ required Lines ∷ optional Threads ∷ []
takes Ask = required Port ∷ optional Look ∷ optional Complete ∷ []
takes Import = required Learned ∷ required File ∷ optional Book ∷ optional Limit ∷ []

-- the options of `type`, with what stands for those that are absent
abbrev pub type_options : List Setting → TypeOptions
type_options settings = record {
  dictionaries = record { items = texts_of Dictionary settings };
  rules = text_given Rules settings;
  learned = text_given Learned settings;
  limit = number_given Limit settings;
}

-- the options of `serve`
abbrev pub serve_options : List Setting → ServeOptions
serve_options settings = record {
  learned = text_of Learned settings;
  dictionaries = record { items = texts_of Dictionary settings };
  rules = text_given Rules settings;
  limit = number_given Limit settings;
  port = number_or 1178 Port settings;
  connections = number_or 1000000 Connections settings;
}

-- the options of `dump`
abbrev pub dump_options : List Setting → DumpOptions
dump_options settings = record { learned = text_of Learned settings; book = number_or 0 Book settings }

-- the options of `share`
abbrev pub share_options : List Setting → ShareOptions
share_options settings = record {
  learned = text_of Learned settings;
  typist = number_or 0 Typist settings;
  books = books_of Books settings;
  limit = number_given Limit settings;
}

-- the options of `load`, of which no number is absent
abbrev pub load_options : List Setting → LoadOptions
load_options settings = record {
  seed = number_or 0 Seed settings;
  sessions = number_or 0 Sessions settings;
  lines = number_or 0 Lines settings;
}

-- what a server is asked for: the candidates of a reading, where one is given, or else the readings of a prefix
abbrev pub question_of : List Setting → Question
question_of settings =
    if is_given Look settings
    then questions.Look (text_of Look settings)
    else questions.Complete (text_of Complete settings)

-- the reading or the prefix
abbrev pub question_text : Question → List ℕ
question_text (questions.Look reading) = reading
question_text (questions.Complete prefix) = prefix

-- the options of `ask`
abbrev pub ask_options : List Setting → AskOptions
ask_options settings = record { port = number_or 0 Port settings; question = question_of settings }

-- whether a server is asked for one thing, and for one that it can be
abbrev pub asks_once : List Setting → Bool
asks_once settings =
    times Look settings + times Complete settings == 1 && is_askable (question_text (question_of settings))

-- the options of `import`
abbrev pub import_options : List Setting → ImportOptions
import_options settings = record {
  learned = text_of Learned settings;
  file = text_of File settings;
  book = number_or 0 Book settings;
  limit = number_given Limit settings;
}

-- the command with its settings: `type` and `load` wait where each session is to have a thread of its own
abbrev pub command : CommandName → List Setting → Command
command TypeScript settings =
    if is_given Threads settings
    then Waiting (waiting.TypeScript (type_options settings))
    else Alone (alone.TypeScript (type_options settings))
command Serve settings = Waiting (waiting.Serve (serve_options settings))
command Check settings = Alone (alone.Check (text_of File settings))
command Dump settings = Alone (alone.Dump (dump_options settings))
command Share settings = Alone (alone.Share (share_options settings))
command Load settings =
    if is_given Threads settings
    then Waiting (waiting.Load (load_options settings))
    else Alone (alone.Load (load_options settings))
command Ask settings = Waiting (waiting.Ask (ask_options settings))
command Import settings = Alone (alone.Import (import_options settings))

-- whether settings that a command takes are enough: `ask` asks for one thing
abbrev pub are_enough : CommandName → List Setting → Bool
are_enough Ask settings = asks_once settings
are_enough name settings = true

-- the command with settings, where it takes them and they are enough
abbrev pub command_with : CommandName → List Setting → Option Command
command_with name settings =
    if fits (takes name) settings && are_enough name settings then Some (command name settings) else None

-- the command of settings that words are: the first names it, and it takes the settings of the rest
abbrev pub settings_command : List (List ℕ) → Option Command
settings_command [] = None
settings_command (word ∷ words) =
    option_and_then (λ name. option_and_then (command_with name) (settings_of words)) (command_named word)

-- the command `expr` that words are: the first names it, and the rest are its files
abbrev pub expr_command : List (List ℕ) → Option Command
expr_command [] = None
expr_command (word ∷ words) =
    if bytes_eq word (codes "expr") then option_map (λ options. Alone (alone.Expr options)) (expr_of words) else None

-- the command that words are: one of settings, or `expr`
abbrev pub command_of : List (List ℕ) → Option Command
command_of words = option_or (settings_command words) (expr_command words)

-- the most bytes of the learned file: those that are given, or the greatest limit
abbrev pub limit_of : Option ℕ → ℕ
limit_of given = unwrap_or given 268435456

-- the name of the learned file of a command, where one is given
abbrev pub learned_of : Command → Option (List ℕ)
learned_of (Alone (alone.TypeScript options)) = options.learned
learned_of (Alone (alone.Check file)) = None
learned_of (Alone (alone.Dump options)) = Some options.learned
learned_of (Alone (alone.Share options)) = Some options.learned
learned_of (Alone (alone.Load options)) = None
learned_of (Alone (alone.Expr options)) = None
learned_of (Alone (alone.Import options)) = Some options.learned
learned_of (Waiting (waiting.TypeScript options)) = options.learned
learned_of (Waiting (waiting.Serve options)) = Some options.learned
learned_of (Waiting (waiting.Load options)) = None
learned_of (Waiting (waiting.Ask options)) = None
