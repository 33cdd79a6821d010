-- The sessions of a script, each typed by a caller of its own, and how their lines are put together.
use Rattle.std.specs.Prelude.{ℕ, ◌+◌, Bool, true, ◌&&◌, ◌||◌, ◌==◌, not, if◌then◌else◌, unwrap_or, Option, None, Some}
use Rattle.std.specs.Prelude.{List, [], ◌∷◌, ◌++◌, map}
use Rattle.std.specs.BTreeMap.{insert_entry, is_at}
use Rattle.std.specs.List.{fold, filter_map, list_all}
use Rattle.std.specs.Map.{lookup}
use Rattle.std.specs.Ordering.{nat_cmp}
use Rattle.romaji_rules.specs.declared.rule.Rule.{Rule}
use Rattle.skk_calls.specs.declared.answer.Answer.{Answer}
use Rattle.skk_calls.specs.BookLists.{has_number}
use Rattle.skk_calls.specs.States.{State, shared_books}
use Rattle.skk_calls.specs.Interactions.{Interaction, ends, asks, prints, followed_by, Dialog, answers_of}
use Rattle.key_scripts.specs.Script.{session_of}
use Rattle.key_scripts.specs.declared.line.Line.{Line}
use Rattle.key_scripts.specs.declared.line.Line.TheVariants.{Keys, Opening}
use Rattle.session_machine.specs.Pressed.{all_pressed}
use Rattle.session_machine.specs.Session.{Session, new_session}
use Rattle.script_typing.specs.Printing.{output_line}
use Rattle.script_typing.specs.Sessions.{SessionMap, session_or_new, with_session}
use Rattle.script_typing.specs.Typed.{closing_lines}

-- Tasks

-- the lines of sessions, ascending by their numbers
abbrev pub Tasks : Type 0
Tasks = List (ℕ × List Line)

-- the lines that a session of a number has so far
abbrev pub lines_at : Tasks → ℕ → List Line
lines_at tasks number = unwrap_or (lookup (is_at (nat_cmp number)) tasks) []

-- tasks with one line more, behind the others of its session
abbrev pub with_line : Tasks → Line → Tasks
with_line tasks line =
    insert_entry nat_cmp tasks (session_of line) (lines_at tasks (session_of line) ++ line ∷ [])

-- the sessions that lines name, each with its own lines
abbrev pub tasks_of : List Line → Tasks
tasks_of lines = fold with_line [] lines

-- the number of the session that prints a line, where a line gives keys
abbrev pub number_printed : Line → Option ℕ
number_printed (Keys number ks) = Some number
number_printed (Opening number typist book) = None

-- the numbers of the sessions that print a line, in the order of the script
abbrev pub numbers_printed : List Line → List ℕ
numbers_printed lines = filter_map number_printed lines

-- what a session's own lines ask, one after another; it ends with the session behind them
abbrev pub own_typing : List Rule → Session → List Line → Interaction Session
own_typing rules session [] = ends session
own_typing rules session (Keys number ks ∷ lines) =
    followed_by (all_pressed rules session ks) (λ after. own_typing rules after lines)
own_typing rules session (Opening number typist book ∷ lines) = own_typing rules (new_session typist book) lines

-- what the lines of a task ask, from a new session on, whose number is its typist and its book
abbrev pub task_typing : List Rule → ℕ × List Line → Interaction Session
task_typing rules task = own_typing rules (new_session task.0 task.0) task.1

-- Typing by sessions of their own

-- the answers that are left for the session of each number
abbrev pub Given : Type 0
Given = ℕ → List Answer

-- the same with these for one session
abbrev pub with_given : Given → ℕ → List Answer → Given
with_given given number answers other = if other == number then answers else given other

-- the value that an interaction ends with which takes its answers from the head of these, and the rest of them; none
-- where one is wanting
abbrev pub taken : {S : Type 0} → Interaction S → List Answer → Option (S × List Answer)
taken (ends value) answers = Some (value, answers)
taken (asks call next) [] = None
taken (asks call next) (answer ∷ answers) = taken (next answer) answers
taken (prints text rest) answers = taken rest answers

-- what is printed for lines where each session takes its answers from its own: the output lines in the order of the
-- script, up to the first line whose answers are wanting, and behind all of them the closing lines
abbrev pub woven : List Rule → SessionMap → Given → List Line → List ℕ
woven rules sessions given [] = closing_lines sessions
woven rules sessions given (Keys number ks ∷ lines) =
    elim (taken (all_pressed rules (session_or_new sessions number) ks) (given number)) [
      | None ↦ []
      | Some (session, rest) ↦
          output_line number session
          ++ woven rules (with_session sessions number session) (with_given given number rest) lines
    ]
woven rules sessions given (Opening number typist book ∷ lines) =
    woven rules (with_session sessions number (new_session typist book)) given lines

-- the place of the session of a number in tasks, counted from 0
abbrev pub place_of : Tasks → ℕ → ℕ
place_of [] number = 0
place_of (task ∷ tasks) number = if task.0 == number then 0 else place_of tasks number + 1

-- the answers that each session was given, where the caller of its place is its own and has said this
abbrev pub answers_by : (ℕ → Dialog) → Tasks → Given
answers_by said tasks number = answers_of (said (place_of tasks number))

-- Typists that are apart

-- the session that the lines of a task begin with
abbrev pub first_session : ℕ → List Line → Session
first_session number [] = new_session number number
first_session number (Keys session ks ∷ lines) = new_session number number
first_session number (Opening session typist book ∷ lines) = new_session typist book

-- the typist and the book of a session are not 0
abbrev pub is_private : Session → Bool
is_private session = not (session.typist == 0) && not (session.book == 0)

-- each of these numbers is another
abbrev pub differ : List ℕ → Bool
differ [] = true
differ (number ∷ numbers) = list_all (λ other. not (other == number)) numbers && differ numbers

-- in a state the list of books of none of these typists has the number of another of them
abbrev pub read_apart : State → List ℕ → Bool
read_apart state typists =
    list_all (λ typist.
    list_all (λ other. other == typist || not (has_number (shared_books state typist) other)) typists) typists

-- the sessions that lines name have each a typist of its own, none has the shared book, and in a state none reads the
-- book of another's typist
abbrev pub are_apart : State → List Line → Bool
are_apart state lines =
    let sessions = map (λ task. first_session task.0 task.1) (tasks_of lines) in
    let typists = map (λ (session : Session). session.typist) sessions in
    list_all is_private sessions && (differ typists && read_apart state typists)
