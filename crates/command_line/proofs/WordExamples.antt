-- Words at small examples, each worked out by hand.
use Rattle.std.proofs.Common.{◌≡◌, ◌==◌, ℕ, Bool, true, false, if◌then◌else◌, Option, None, Some, is_some, List, []}
use Rattle.std.proofs.Common.{◌∷◌, ◌++◌, refl, map, codes, length, replicate, zero, suc}
use Prim.Native.String.{String}
use lib.Utf8.{encode}
use Rattle.std.specs.Fmt.{digits}
use Rattle.std.specs.List.{filter}
use Rattle.std.specs.Option.{option_and_then, option_map}
use Rattle.command_line.specs.Arguments.{name_at, place}
use Rattle.command_line.specs.Command.{command_of, learned_of, limit_of}
use Rattle.command_line.specs.OptionWords.{option_app, settings_asked}
use Rattle.skk_text.specs.Lines.{with_first}
use Rattle.command_line.specs.Words.{can_be_asked, is_askable, is_name, number_within, books_listed, cut, parts_of}
use Rattle.command_line.specs.Words.{with_commas}
use Rattle.command_line.specs.declared.argument.Argument.TheVariants.{File, Dictionary, Limit, Seed, Threads}
use Rattle.command_line.specs.declared.command.AloneCommand.TheVariants as alone
use Rattle.command_line.specs.declared.command.Command.{Command}
use Rattle.command_line.specs.declared.command.Command.TheVariants.{Alone, Waiting}
use Rattle.command_line.specs.declared.command.LoadOptions.{LoadOptions}
use Rattle.command_line.specs.declared.command.Question.{Question}
use Rattle.command_line.specs.declared.command.Question.TheVariants as questions
use Rattle.command_line.specs.declared.command.TypeOptions.{TypeOptions}
use Rattle.command_line.specs.declared.command.WaitingCommand.TheVariants as waiting
use Rattle.command_line.specs.declared.command_name.CommandName.TheVariants as titles
use Rattle.command_line.specs.declared.expr_words.Sign.{Sign}
use Rattle.command_line.specs.declared.expr_words.Sign.TheVariants.{Plus, Minus}

-- the words of a line, between single spaces
abbrev split : List ℕ → List (List ℕ)
split [] = [] ∷ []
split (byte ∷ bytes) = if byte == 32 then [] ∷ split bytes else with_first byte (split bytes)

abbrev words : String → List (List ℕ)
words line = split (codes line)

abbrev read : String → Option Command
read line = command_of (words line)

-- commands with their options
abbrev type_with : List (List ℕ) → Option (List ℕ) → Option (List ℕ) → Option ℕ → Bool → Option Command
type_with dictionaries rules learned limit threads =
    let options : TypeOptions = record {
      dictionaries = record { items = dictionaries };
      rules = rules;
      learned = learned;
      limit = limit;
    } in
    Some (if threads then Waiting (waiting.TypeScript options) else Alone (alone.TypeScript options))

abbrev serve_with : String → List (List ℕ) → Option (List ℕ) → Option ℕ → ℕ → ℕ → Option Command
serve_with learned dictionaries rules limit port connections =
    Some (Waiting (waiting.Serve (record {
      learned = codes learned;
      dictionaries = record { items = dictionaries };
      rules = rules;
      limit = limit;
      port = port;
      connections = connections;
    })))

abbrev load_with : ℕ → ℕ → ℕ → Bool → Option Command
load_with seed sessions lines threads =
    let options : LoadOptions = record { seed = seed; sessions = sessions; lines = lines } in
    Some (if threads then Waiting (waiting.Load options) else Alone (alone.Load options))

-- the lines of these that are a command
abbrev taken : List String → List String
taken lines = filter (λ line. is_some (read line)) lines

-- each option in both spellings, in any order; the dictionaries in theirs
type_words : map read ("type" ∷ "type --dict a --rules b --learned c --limit 64 --threads"
    ∷ "type --threads --limit=268435456 --learned=c --rules=b --dict=a"
    ∷ "type --dict b --threads --dict=a --dict b" ∷ [])
    ≡ type_with [] None None None false ∷ type_with (codes "a" ∷ []) (Some (codes "b")) (Some (codes "c")) (Some 64)
    true ∷ type_with (codes "a" ∷ []) (Some (codes "b")) (Some (codes "c")) (Some 268435456) true
    ∷ type_with (codes "b" ∷ codes "a" ∷ codes "b" ∷ []) None None None true ∷ []
unfolding digits
type_words = refl

serve_words : map read ("serve --learned a" ∷ "serve --dict d --port 1 --learned=a --connections=1 --rules r --limit=65"
    ∷ "serve --connections 1000000 --port=65535 --learned a" ∷ [])
    ≡ serve_with "a" [] None None 1178 1000000 ∷ serve_with "a" (codes "d" ∷ []) (Some (codes "r")) (Some 65) 1 1
    ∷ serve_with "a" [] None None 65535 1000000 ∷ []
unfolding digits
serve_words = refl

abbrev check_with : String → Option Command
check_with name = Some (Alone (alone.Check (codes name)))

check_words : map read ("check a" ∷ "check type" ∷ "check a=-b" ∷ "check =" ∷ "check 辞書-" ∷ [])
    ≡ check_with "a" ∷ check_with "type" ∷ check_with "a=-b" ∷ check_with "=" ∷ check_with "辞書-" ∷ []
check_words = refl

abbrev dump_with : List ℕ → ℕ → Option Command
dump_with learned book = Some (Alone (alone.Dump (record { learned = learned; book = book })))

dump_words : map read ("dump --learned a" ∷ "dump --book 0 --learned=a" ∷ "dump --learned a --book=65535" ∷ [])
    ≡ dump_with (codes "a") 0 ∷ dump_with (codes "a") 0 ∷ dump_with (codes "a") 65535 ∷ []
unfolding digits
dump_words = refl

abbrev share_with : List ℕ → ℕ → List ℕ → Option ℕ → Option Command
share_with learned typist books limit =
    Some (Alone (alone.Share (record { learned = learned; typist = typist; books = books; limit = limit })))

-- books stand in their order, from one to eight of them; a typist's own may stand among them
share_words : map read ("share --learned a --typist 1 --books 7,0" ∷ "share --books=0 --typist=0 --learned=a"
    ∷ "share --limit 64 --books 65535,1,2,3,4,5,6,0 --typist 65535 --learned a"
    ∷ "share --typist 7 --limit=268435456 --books=0,7 --learned share" ∷ [])
    ≡ share_with (codes "a") 1 (7 ∷ 0 ∷ []) None ∷ share_with (codes "a") 0 (0 ∷ []) None
    ∷ share_with (codes "a") 65535 (65535 ∷ 1 ∷ 2 ∷ 3 ∷ 4 ∷ 5 ∷ 6 ∷ 0 ∷ []) (Some 64)
    ∷ share_with (codes "share") 7 (0 ∷ 7 ∷ []) (Some 268435456) ∷ []
unfolding digits
share_words = refl

load_words : map read ("load --seed 0 --sessions 1 --lines 1"
    ∷ "load --threads --lines=20000 --sessions=64 --seed=18446744073709551615" ∷ [])
    ≡ load_with 0 1 1 false ∷ load_with 18446744073709551615 64 20000 true ∷ []
unfolding digits
load_words = refl

-- a dictionary is learnt into one book, into the shared one where none is named
abbrev import_with : List ℕ → List ℕ → ℕ → Option ℕ → Option Command
import_with learned file book limit =
    Some (Alone (alone.Import (record { learned = learned; file = file; book = book; limit = limit })))

import_words : map read ("import --learned a b" ∷ "import b --learned=a"
    ∷ "import --book 65535 import --limit 64 --learned l" ∷ "import --learned a --limit=268435456 --book=0 辞書" ∷ [])
    ≡ import_with (codes "a") (codes "b") 0 None ∷ import_with (codes "a") (codes "b") 0 None
    ∷ import_with (codes "l") (codes "import") 65535 (Some 64)
    ∷ import_with (codes "a") (codes "辞書") 0 (Some 268435456) ∷ []
unfolding digits
import_words = refl

no_import : taken ("import" ∷ "import a" ∷ "import --learned a" ∷ "import --learned a b c"
    ∷ "import --learned a --learned a b" ∷ "import --learned a --book 1 --book 1 b"
    ∷ "import --learned a --book 65536 b" ∷ "import --learned a --limit 63 b"
    ∷ "import --learned a --limit 268435457 b" ∷ "import --learned a -b" ∷ "import --learned a --dict b"
    ∷ "import --learned a b --threads" ∷ "import --learned a --book b" ∷ [])
    ≡ []
unfolding digits
no_import = refl

-- a server is asked for one thing
abbrev ask_with : ℕ → Question → Option Command
ask_with port question = Some (Waiting (waiting.Ask (record { port = port; question = question })))

ask_words : map read ("ask --port 1178 --look かんじ" ∷ "ask --complete=か --port=1" ∷ "ask --look / --port 65535"
    ∷ "ask --port 2 --complete ask" ∷ [])
    ≡ ask_with 1178 (questions.Look (codes "かんじ")) ∷ ask_with 1 (questions.Complete (codes "か"))
    ∷ ask_with 65535 (questions.Look (codes "/")) ∷ ask_with 2 (questions.Complete (codes "ask")) ∷ []
unfolding digits encode
ask_words = refl

no_ask : taken ("ask" ∷ "ask --port 1" ∷ "ask --look a" ∷ "ask --complete a" ∷ "ask a" ∷ "ask --port 1 --look"
    ∷ "ask --port 1 --look a --complete b" ∷ "ask --port 1 --look a --look a" ∷ "ask --port 1 --complete a --complete a"
    ∷ "ask --port 1 --port 1 --look a" ∷ "ask --port 0 --look a" ∷ "ask --port 65536 --look a" ∷ "ask --port 1 --look="
    ∷ "ask --port 1 --look -a" ∷ "ask --port 1 --complete=-" ∷ "ask --port 1 --look a b"
    ∷ "ask --port 1 --look a --dict d" ∷ "ask --port 1 --look a --learned l" ∷ "ask --port 1 --look a --threads"
    ∷ "serve --learned a --look a" ∷ "type --complete a" ∷ [])
    ≡ []
unfolding digits encode
no_ask = refl

-- what is asked for has 1 to 255 bytes, of which none is a space, CR or LF
askable : map is_askable
    (codes "a" ∷ codes "か a" ∷ (97 ∷ 9 ∷ []) ∷ (97 ∷ 13 ∷ []) ∷ (10 ∷ 97 ∷ []) ∷ codes " " ∷ codes "" ∷ codes "-a"
    ∷ replicate 255 97 ∷ replicate 256 97 ∷ replicate 85 12354 ∷ (97 ∷ replicate 85 12354) ∷ [])
    ≡ true ∷ false ∷ true ∷ false ∷ false ∷ false ∷ false ∷ false ∷ true ∷ false ∷ true ∷ false ∷ []
unfolding encode
askable = refl

asked_bytes : map can_be_asked ([] ∷ (32 ∷ []) ∷ (13 ∷ []) ∷ (97 ∷ 10 ∷ []) ∷ (45 ∷ []) ∷ (255 ∷ 0 ∷ []) ∷ [])
    ≡ false ∷ false ∷ false ∷ false ∷ true ∷ true ∷ []
asked_bytes = refl

-- a value may hold a space, a `=` and a `-`, and be the name of a command
values : map command_of ((codes "check" ∷ codes "a b" ∷ []) ∷ (codes "dump" ∷ codes "--learned= a" ∷ [])
    ∷ words "dump --learned==" ∷ words "dump --learned a--book" ∷ words "dump --learned dump" ∷ [])
    ≡ check_with "a b" ∷ dump_with (codes " a") 0 ∷ dump_with (codes "=") 0
    ∷ dump_with (codes "a--book") 0 ∷ dump_with (codes "dump") 0 ∷ []
values = refl

-- sixteen dictionaries, and one more
dictionaries : map (λ count. command_of (codes "type" ∷ replicate count (codes "--dict=a"))) (16 ∷ 17 ∷ 40 ∷ [])
    ≡ type_with (replicate 16 (codes "a")) None None None false ∷ None ∷ None ∷ []
dictionaries = refl

served_dictionaries : map
    (λ count. is_some (command_of (codes "serve" ∷ codes "--learned=a" ∷ replicate count (codes "--dict=a"))))
    (16 ∷ 17 ∷ []) ≡ true ∷ false ∷ []
served_dictionaries = refl

-- files with a sign before each but the first
abbrev expr_with : String → List (Sign × String) → Option Command
expr_with first terms =
    Some (Alone (alone.Expr (record {
      first = codes first;
      terms = record { items = map (λ term. record { sign = term.0; name = codes term.1 }) terms };
    })))

expr_words : map read
    ("expr a" ∷ "expr a + b" ∷ "expr a - b" ∷ "expr a + a - a" ∷ "expr a+b - +c" ∷ "expr expr + a=" ∷ [])
    ≡ expr_with "a" [] ∷ expr_with "a" ((Plus, "b") ∷ []) ∷ expr_with "a" ((Minus, "b") ∷ [])
    ∷ expr_with "a" ((Plus, "a") ∷ (Minus, "a") ∷ []) ∷ expr_with "a+b" ((Minus, "+c") ∷ [])
    ∷ expr_with "expr" ((Plus, "a=") ∷ []) ∷ []
expr_words = refl

-- sixteen files, and one more
abbrev added : ℕ → List (List ℕ)
added zero = []
added (suc count) = codes "+" ∷ codes "a" ∷ added count

expr_files : map (λ count. is_some (command_of (codes "expr" ∷ codes "a" ∷ added count))) (15 ∷ 16 ∷ [])
    ≡ true ∷ false ∷ []
expr_files = refl

no_expr : taken
    ("expr" ∷ "expr " ∷ "expr +" ∷ "expr -" ∷ "expr -a" ∷ "expr + a" ∷ "expr a b" ∷ "expr a +" ∷ "expr a -"
    ∷ "expr a + " ∷ "expr a  b" ∷ "expr a + + b" ∷ "expr a + -" ∷ "expr a - -b" ∷ "expr a + b c" ∷ "expr a + b -"
    ∷ "expr a * b" ∷ "expr a ++ b" ∷ "expr a +b" ∷ "expr a + b --limit 64" ∷ "Expr a" ∷ "expr --dict a" ∷ [])
    ≡ []
no_expr = refl

-- no words, words that name no command, and too few and too many
no_words : command_of [] ≡ None
no_words = refl

other_words : taken
    ("" ∷ "typ" ∷ "types" ∷ "Type" ∷ "-type" ∷ "--type" ∷ "type=" ∷ " type" ∷ "type " ∷ "type type" ∷ "type a" ∷ "help"
    ∷ "--help" ∷ "-h" ∷ "--" ∷ "-" ∷ "=" ∷ "type -h" ∷ "type --help" ∷ "type --version" ∷ "type --" ∷ "type -"
    ∷ "type =" ∷ "type --=" ∷ "type --=a" ∷ "--threads type" ∷ "check" ∷ "check a b" ∷ "check " ∷ "check -" ∷ "check -a"
    ∷ "check --" ∷ "check -- a" ∷ "check a --" ∷ "dump --learned a b" ∷ "serve --learned a b" ∷ [])
    ≡ []
other_words = refl

-- an option without its value, or with one that is empty or begins with `-`; and one that takes none with a value
bad_values : taken ("type --dict" ∷ "type --dict=" ∷ "type --dict " ∷ "type --dict -a" ∷ "type --dict=-a"
    ∷ "type --dict - a" ∷ "type --dict --threads" ∷ "type --rules" ∷ "type --rules=" ∷ "type --learned -"
    ∷ "type --learned=--" ∷ "type --threads="
    ∷ "type --threads=x" ∷ "type --threads x" ∷ "type --dict = a" ∷ "type --dict a --limit" ∷ "dump --learned a --book"
    ∷ "dump --learned" ∷ "share --learned a --typist 1 --books" ∷ "share --learned a --books 1 --typist" ∷ [])
    ≡ []
unfolding digits
bad_values = refl

-- texts as lists of books: a number of each, in decimal, between commas; from one to eight, and none of them twice
lists : map (λ text. books_listed (codes text)) ("0" ∷ "65535" ∷ "7,0" ∷ "0,7" ∷ "1,10,100" ∷ "8,7,6,5,4,3,2,1" ∷ [])
    ≡ Some (0 ∷ []) ∷ Some (65535 ∷ []) ∷ Some (7 ∷ 0 ∷ []) ∷ Some (0 ∷ 7 ∷ []) ∷ Some (1 ∷ 10 ∷ 100 ∷ [])
    ∷ Some (8 ∷ 7 ∷ 6 ∷ 5 ∷ 4 ∷ 3 ∷ 2 ∷ 1 ∷ []) ∷ []
unfolding digits
lists = refl

no_lists : filter (λ text. is_some (books_listed (codes text)))
    ("" ∷ "," ∷ "7," ∷ ",7" ∷ "7,,0" ∷ "7,7" ∷ "7,0,7" ∷ "0,7,0" ∷ "65536" ∷ "7,65536" ∷ "65536,7" ∷ "9,8,7,6,5,4,3,2,1"
    ∷ "9,8,7,6,5,4,3,2,9" ∷ "1,2,3,4,5,6,7,8," ∷ "7 ,0" ∷ "7, 0" ∷ " 7" ∷ "7 " ∷ "7 0" ∷ "7;0" ∷ "07" ∷ "7,00" ∷ "+7"
    ∷ "-7" ∷ "7,-0" ∷ "a" ∷ "7,a" ∷ "７" ∷ "7，0" ∷ "7、0" ∷ [])
    ≡ []
unfolding digits
no_lists = refl

shared_lists : map (λ books.
    is_some (command_of (words "share --learned a --typist 1" ++ (codes "--books" ∷ codes books ∷ []))))
    ("7,0" ∷ "7, 0" ∷ "" ∷ "7," ∷ "7,7" ∷ "-7" ∷ "1,2,3,4,5,6,7,8" ∷ "1,2,3,4,5,6,7,8,9" ∷ [])
    ≡ true ∷ false ∷ false ∷ false ∷ false ∷ false ∷ true ∷ false ∷ []
unfolding digits
shared_lists = refl

-- the parts of a text between commas, and numbers with these between
parts : map (λ text. parts_of (codes text)) ("" ∷ "a" ∷ "," ∷ "a,b" ∷ "a,,bc," ∷ [])
    ≡ ([] ∷ []) ∷ (codes "a" ∷ []) ∷ ([] ∷ [] ∷ []) ∷ (codes "a" ∷ codes "b" ∷ [])
    ∷ (codes "a" ∷ [] ∷ codes "bc" ∷ [] ∷ []) ∷ []
parts = refl

commas : map with_commas ([] ∷ (7 ∷ []) ∷ (7 ∷ 0 ∷ []) ∷ (65535 ∷ 10 ∷ 7 ∷ []) ∷ [])
    ≡ [] ∷ codes "7" ∷ codes "7,0" ∷ codes "65535,10,7" ∷ []
unfolding digits
commas = refl

-- a spelling that is no option's
bad_spellings : taken ("type --dic a" ∷ "type --dicts a" ∷ "type --Dict a" ∷ "type -dict a" ∷ "type dict a"
    ∷ "type ---dict a" ∷ "type --dict:a" ∷ "type -t" ∷ "type --thread" ∷ "type --threads " ∷ []) ≡ []
bad_spellings = refl

-- every option but `--dict` twice
twice : taken ("type --rules a --rules a" ∷ "type --learned a --learned=a" ∷ "type --limit 64 --limit 64"
    ∷ "type --threads --threads" ∷ "serve --learned a --learned b" ∷ "serve --learned a --port 1 --port 1"
    ∷ "serve --learned a --connections 1 --connections 1" ∷ "serve --learned a --rules r --rules=r"
    ∷ "serve --rules r --learned a --rules s" ∷ "serve --learned a --limit 64 --limit 64"
    ∷ "serve --limit=64 --learned a --limit 65" ∷ "dump --learned a --book 1 --book 1"
    ∷ "load --seed 1 --seed 1 --sessions 1 --lines 1" ∷ "load --seed 1 --sessions 1 --sessions 1 --lines 1"
    ∷ "load --seed 1 --sessions 1 --lines 1 --lines 1"
    ∷ "load --seed 1 --sessions 1 --lines 1 --threads --threads"
    ∷ "share --learned a --learned a --typist 1 --books 7" ∷ "share --learned a --typist 1 --typist 1 --books 7"
    ∷ "share --learned a --typist 1 --books 7 --books 0"
    ∷ "share --learned a --typist 1 --books 7 --limit 64 --limit 64" ∷ [])
    ≡ []
unfolding digits
twice = refl

-- a required option that is missing, and an option of another command
missing : taken ("serve" ∷ "serve --port 1" ∷ "dump" ∷ "dump --book 1" ∷ "load" ∷ "load --sessions 1 --lines 1"
    ∷ "load --seed 1 --lines 1" ∷ "load --seed 1 --sessions 1" ∷ "share" ∷ "share --typist 1 --books 7"
    ∷ "share --learned a --books 7" ∷ "share --learned a --typist 1" ∷ []) ≡ []
unfolding digits
missing = refl

of_another : taken ("type --port 1" ∷ "type --connections 1" ∷ "type --book 1" ∷ "type --seed 1" ∷ "type --sessions 1"
    ∷ "type --lines 1" ∷ "serve --learned a --threads" ∷ "serve --learned a --book 1" ∷ "check a --dict a"
    ∷ "check a --threads" ∷ "check --learned a"
    ∷ "dump --learned a --limit 64" ∷ "dump --learned a --dict a" ∷ "dump --learned a --threads"
    ∷ "dump --learned a --seed 1"
    ∷ "load --seed 1 --sessions 1 --lines 1 --learned a" ∷ "load --seed 1 --sessions 1 --lines 1 --dict a"
    ∷ "load --seed 1 --sessions 1 --lines 1 --limit 64" ∷ "type --typist 1" ∷ "type --books 1"
    ∷ "dump --learned a --typist 1" ∷ "dump --learned a --books 1" ∷ "serve --learned a --books 1"
    ∷ "share --learned a --typist 1 --books 7 --book 7" ∷ "share --learned a --typist 1 --books 7 --dict a"
    ∷ "share --learned a --typist 1 --books 7 --threads" ∷ "share --learned a --typist 1 --books 7 a" ∷ [])
    ≡ []
unfolding digits
of_another = refl

-- numbers one beyond each end of each range
beyond : taken
    ("type --limit 63" ∷ "type --limit 268435457" ∷ "serve --learned a --port 0" ∷ "serve --learned a --port 65536"
    ∷ "serve --learned a --connections 0" ∷ "serve --learned a --connections 1000001" ∷ "dump --learned a --book 65536"
    ∷ "load --seed 18446744073709551616 --sessions 1 --lines 1" ∷ "load --seed 1 --sessions 0 --lines 1"
    ∷ "load --seed 1 --sessions 65 --lines 1" ∷ "load --seed 1 --sessions 1 --lines 0"
    ∷ "load --seed 1 --sessions 1 --lines 20001" ∷ "share --learned a --typist 65536 --books 7"
    ∷ "share --learned a --typist 1 --books 7 --limit 63"
    ∷ "share --learned a --typist 1 --books 7 --limit 268435457" ∷ [])
    ≡ []
unfolding digits
beyond = refl

-- texts as numbers from 0 to 99
numbers : map (λ text. number_within 0 99 (codes text)) ("0" ∷ "9" ∷ "10" ∷ "99" ∷ "100" ∷ "" ∷ "00" ∷ "01" ∷ "+1"
    ∷ "-1" ∷ "-0" ∷ " 1" ∷ "1 " ∷ "1_0" ∷ "1.0" ∷ "0x1" ∷ "a" ∷ "1a" ∷ "１" ∷ "99999999999999999999999999" ∷ [])
    ≡ Some 0 ∷ Some 9 ∷ Some 10 ∷ Some 99 ∷ None ∷ None ∷ None ∷ None ∷ None ∷ None ∷ None ∷ None ∷ None ∷ None ∷ None
    ∷ None ∷ None ∷ None ∷ None ∷ None ∷ []
unfolding digits
numbers = refl

-- what may be a name, and what is cut where
names : map (λ text. is_name (codes text)) ("" ∷ "-" ∷ "-a" ∷ "a" ∷ "a-" ∷ " " ∷ "=" ∷ "ー" ∷ [])
    ≡ false ∷ false ∷ false ∷ true ∷ true ∷ true ∷ true ∷ true ∷ []
names = refl

cuts : map (λ text. cut 61 (codes text)) ("" ∷ "a" ∷ "=" ∷ "a=" ∷ "=b" ∷ "a=b" ∷ "a=b=c" ∷ "ab==" ∷ [])
    ≡ None ∷ None ∷ Some ([], []) ∷ Some (codes "a", []) ∷ Some ([], codes "b") ∷ Some (codes "a", codes "b")
    ∷ Some (codes "a", codes "b=c") ∷ Some (codes "ab", codes "=") ∷ []
cuts = refl

-- the names of options are their spellings behind two hyphens, and `clap` is told those of a command
option_names : map (λ argument. name_at (place argument)) (Dictionary ∷ Limit ∷ Seed ∷ Threads ∷ File ∷ [])
    ≡ codes "dict" ∷ codes "limit" ∷ codes "seed" ∷ codes "threads" ∷ [] ∷ []
option_names = refl

told : map {B = List ℕ × Option (List ℕ) × Bool} (λ rule. (rule.id, rule.long, rule.required))
    (option_app titles.Dump).top.rules
    ≡ (codes "learned", Some (codes "learned"), true) ∷ (codes "book", Some (codes "book"), false) ∷ []
told = refl

-- the settings that a command takes of the words behind the first, whatever that is
asked : map (λ line. option_map length (settings_asked titles.Dump (words line)))
    ("dump --learned a" ∷ "dump --learned a --book 1" ∷ "dump --book 1" ∷ "check a" ∷ "dump" ∷ "load --learned a" ∷ [])
    ≡ Some 1 ∷ Some 2 ∷ None ∷ None ∷ None ∷ Some 1 ∷ []
unfolding digits
asked = refl

-- the learned file of a command, where it has one
learned_files : map (λ line. option_and_then learned_of (read line))
    ("type" ∷ "type --learned a" ∷ "type --threads --learned=b" ∷ "serve --learned a --dict b" ∷ "check a"
    ∷ "dump --learned a" ∷ "load --seed 1 --sessions 1 --lines 1" ∷ "load --seed 1 --sessions 1 --lines 1 --threads"
    ∷ "typ" ∷ "dump --book 7 --learned=b" ∷ "share --books 7,0 --typist 1 --learned b" ∷ "share --learned b" ∷ [])
    ≡ None ∷ Some (codes "a") ∷ Some (codes "b") ∷ Some (codes "a") ∷ None ∷ Some (codes "a") ∷ None ∷ None ∷ None
    ∷ Some (codes "b") ∷ Some (codes "b") ∷ None ∷ []
unfolding digits
learned_files = refl

limits : map limit_of (None ∷ Some 64 ∷ Some 268435456 ∷ []) ≡ 268435456 ∷ 64 ∷ 268435456 ∷ []
limits = refl
