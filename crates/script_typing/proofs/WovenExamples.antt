-- Sessions put together, at small examples, each worked out by hand.
use Rattle.std.proofs.Common.{◌≡◌, ℕ, ◌==◌, true, false, cond, None, Some, List, [], ◌∷◌, ◌++◌, codes, map, refl}
use Rattle.std.specs.Fmt.{digits}
use Rattle.skk_calls.specs.declared.answer.Answer.{Answer}
use Rattle.skk_calls.specs.declared.answer.Answer.TheVariants.{Done, Refused}
use Rattle.skk_calls.specs.declared.answer.Refusal.TheVariants.{Memory}
use Rattle.skk_calls.specs.declared.answer.Reply.TheVariants.{Readings}
use Rattle.skk_calls.specs.declared.call.Call.{Call}
use Rattle.skk_calls.specs.declared.call.Call.TheVariants.{Complete}
use Rattle.skk_calls.specs.declared.book_list.TypistList.{TypistList}
use Rattle.skk_calls.specs.States.{empty_state}
use Rattle.skk_calls.specs.Interactions.{Interaction, ends, asks, prints, Dialog, here}
use Rattle.skk_text.specs.declared.key.Key.{Key}
use Rattle.skk_text.specs.declared.key.Key.TheVariants.{Char}
use Rattle.key_scripts.specs.declared.line.Line.{Line}
use Rattle.key_scripts.specs.declared.line.Line.TheVariants.{Keys, Opening}
use Rattle.session_machine.specs.Session.{new_session}
use Rattle.script_typing.specs.Callers.{AskFrom, CountFrom, EndFrom, HaveAsked, LeadFrom}
use Rattle.script_typing.specs.Pages.{PageMap, behind_first, first_page, pages_at, text_of_pages, without_first}
use Rattle.script_typing.specs.Pages.{woven_pages}
use Rattle.script_typing.specs.Printing.{closing_line, output_line}
use Rattle.script_typing.specs.Woven.{answers_by, are_apart, differ, first_session, is_private, lines_at}
use Rattle.script_typing.specs.Woven.{numbers_printed}
use Rattle.script_typing.specs.Woven.{own_typing, place_of, taken, task_typing, tasks_of, with_given, woven}
use Rattle.script_typing.specs.Workers.{own_pages}

-- Tasks

-- the lines of two sessions, the second of which is opened for typist 5
abbrev lines : List Line
lines = Opening 2 5 5 ∷ Keys 2 [] ∷ Keys 1 [] ∷ Keys 2 (Char 97 ∷ []) ∷ []

tasks_cut : tasks_of lines
    ≡ (1, Keys 1 [] ∷ []) ∷ (2, Opening 2 5 5 ∷ Keys 2 [] ∷ Keys 2 (Char 97 ∷ []) ∷ []) ∷ []
tasks_cut = refl

lines_had : map (lines_at (tasks_of lines)) (1 ∷ 3 ∷ []) ≡ (Keys 1 [] ∷ []) ∷ [] ∷ []
lines_had = refl

-- only lines of keys print
order_kept : numbers_printed lines ≡ 2 ∷ 1 ∷ 2 ∷ []
order_kept = refl

-- places count from 0, ascending by the numbers of sessions
places_counted : map (place_of (tasks_of lines)) (1 ∷ 2 ∷ 3 ∷ []) ≡ 0 ∷ 1 ∷ 2 ∷ []
places_counted = refl

-- Answers

abbrev call : Call
call = Complete 1 (codes "a")

abbrev given : Answer
given = Done (Readings [])

abbrev lacked : Answer
lacked = Refused Memory

-- an interaction takes what it asks from the head of the answers, and leaves the rest
abbrev one : Interaction ℕ
one = asks call (λ answer. prints (codes "x") (ends 7))

answers_taken : map (taken one) ((given ∷ lacked ∷ []) ∷ (given ∷ []) ∷ [] ∷ [])
    ≡ Some (7, lacked ∷ []) ∷ Some (7, []) ∷ None ∷ []
answers_taken = refl

-- what the caller of a session's place has said has its answers
abbrev said : ℕ → Dialog
said number = cond (number == 1) ((call, given) ∷ (call, lacked) ∷ []) []

answers_given : map (answers_by said (tasks_of lines)) (1 ∷ 2 ∷ 3 ∷ []) ≡ [] ∷ (given ∷ lacked ∷ []) ∷ [] ∷ []
answers_given = refl

answers_changed : map (with_given (answers_by said (tasks_of lines)) 1 (lacked ∷ [])) (1 ∷ 2 ∷ [])
    ≡ (lacked ∷ []) ∷ (given ∷ lacked ∷ []) ∷ []
answers_changed = refl

-- Woven lines

-- keys that look a reading up, and no key
abbrev asking_keys : List Key
asking_keys = Char 47 ∷ Char 97 ∷ Char 32 ∷ []

-- the lines stand in the order of the script, and the closing lines by the sessions' numbers
woven_whole : woven [] [] (λ number. []) (Opening 2 5 5 ∷ Keys 2 [] ∷ Keys 1 [] ∷ [])
    ≡ output_line 2 (new_session 5 5) ++ output_line 1 (new_session 1 1)
    ++ closing_line 1 (new_session 1 1) ++ closing_line 2 (new_session 5 5) ++ []
unfolding digits
woven_whole = refl

-- a line whose answer is wanting ends them, though another session could go on
woven_wanting : woven [] [] (λ number. []) (Keys 1 [] ∷ Keys 2 asking_keys ∷ Keys 1 [] ∷ [])
    ≡ output_line 1 (new_session 1 1) ++ []
unfolding lib.Utf8.encode
woven_wanting = refl

-- the own lines of a session leave a page each, up to the first whose answer is wanting
pages_left : own_pages [] 1 (new_session 1 1) (Opening 1 3 0 ∷ Keys 1 [] ∷ Keys 1 asking_keys ∷ Keys 1 [] ∷ []) []
    ≡ output_line 1 (new_session 3 0) ∷ []
unfolding lib.Utf8.encode
pages_left = refl

own_typed : own_typing [] (new_session 1 1) (Keys 1 [] ∷ Opening 1 3 0 ∷ []) ≡ ends (new_session 3 0)
own_typed = refl

task_typed : task_typing [] (4, Keys 4 [] ∷ []) ≡ ends (new_session 4 4)
task_typed = refl

-- Pages

abbrev pages : PageMap
pages = (1, codes "a" ∷ []) ∷ (2, codes "b" ∷ codes "c" ∷ []) ∷ []

first_pages : map (λ number. first_page (pages_at pages number)) (1 ∷ 2 ∷ 3 ∷ [])
    ≡ Some (codes "a") ∷ Some (codes "b") ∷ None ∷ []
first_pages = refl

pages_behind : (without_first pages 2 ≡ (1, codes "a" ∷ []) ∷ (2, codes "c" ∷ []) ∷ [])
    × (without_first pages 3 ≡ pages)
    × (behind_first [] ≡ [])
pages_behind = (refl, refl, refl)

pages_woven : map (λ order. text_of_pages (woven_pages order pages))
    ((2 ∷ 1 ∷ 2 ∷ []) ∷ (2 ∷ 2 ∷ 2 ∷ 1 ∷ []) ∷ (1 ∷ 3 ∷ 2 ∷ []) ∷ [] ∷ [])
    ≡ codes "bac" ∷ codes "bc" ∷ codes "a" ∷ [] ∷ []
pages_woven = refl

-- Typists that are apart

-- a session that no line opens has its number as its typist and its book
sessions_first : map (first_session 3) ([] ∷ (Keys 3 [] ∷ []) ∷ (Opening 3 5 0 ∷ Keys 3 [] ∷ []) ∷ [])
    ≡ new_session 3 3 ∷ new_session 3 3 ∷ new_session 5 0 ∷ []
sessions_first = refl

-- a typist with a list of books
abbrev listed : ℕ → List ℕ → TypistList
listed typist books = record { typist = typist; books = books }

privates : map is_private (new_session 3 3 ∷ new_session 0 0 ∷ new_session 5 0 ∷ new_session 5 5 ∷ [])
    ≡ true ∷ false ∷ false ∷ true ∷ []
privates = refl

numbers_differ : map differ ([] ∷ (1 ∷ []) ∷ (1 ∷ 2 ∷ 1 ∷ []) ∷ (1 ∷ 2 ∷ 2 ∷ []) ∷ (3 ∷ 1 ∷ 2 ∷ []) ∷ [])
    ≡ true ∷ true ∷ false ∷ false ∷ true ∷ []
numbers_differ = refl

typists_apart : map (are_apart empty_state) (
    [] ∷ (Keys 1 [] ∷ Keys 2 [] ∷ []) ∷ lines ∷ (Keys 1 [] ∷ Opening 2 1 1 ∷ []) ∷ (Keys 1 [] ∷ Opening 2 5 0 ∷ [])
    ∷ (Opening 1 2 2 ∷ Keys 2 [] ∷ []) ∷ [])
    ≡ true ∷ true ∷ true ∷ false ∷ false ∷ false ∷ []
typists_apart = refl

-- a list may have the own typist, and typists of no session, but not that of another session
lists_apart : map (λ lists. are_apart (record empty_state { lists = lists }) (Keys 1 [] ∷ Opening 2 5 5 ∷ []))
    ([] ∷ (listed 1 (7 ∷ 0 ∷ []) ∷ []) ∷ (listed 1 (1 ∷ 2 ∷ []) ∷ []) ∷ (listed 1 (7 ∷ 5 ∷ []) ∷ [])
    ∷ (listed 1 (7 ∷ []) ∷ listed 5 (0 ∷ 1 ∷ []) ∷ []) ∷ (listed 2 (1 ∷ 5 ∷ []) ∷ []) ∷ [])
    ≡ true ∷ true ∷ true ∷ false ∷ false ∷ true ∷ []
lists_apart = refl

-- Callers

numbers_counted : CountFrom 0 (0 ∷ 1 ∷ []) × CountFrom 3 (3 ∷ []) × (¬ CountFrom 0 (1 ∷ []))
    × (¬ CountFrom 0 (0 ∷ 0 ∷ []))
numbers_counted = ((refl, (refl, tt)), (refl, tt), λ counted. cc (counted.0), λ counted. cc (counted.1.0))

-- a caller whose task asks nothing has said nothing, and no other is there
asked_nothing : HaveAsked [] ((1, Keys 1 [] ∷ []) ∷ []) ([] ∷ []) × HaveAsked [] ((1, []) ∷ []) []
    × (¬ HaveAsked [] [] ([] ∷ [])) × (¬ HaveAsked [] ((1, []) ∷ []) (((call, given) ∷ []) ∷ []))
asked_nothing = ((refl, tt), tt, λ asks. asks, λ asks. cc (asks.0))

ended_so : AskFrom [] (λ number. []) 0 ((1, Keys 1 [] ∷ []) ∷ [])
    × EndFrom [] (λ number. []) 0 ((1, Keys 1 [] ∷ []) ∷ [])
    × LeadFrom [] (λ number. []) 0 ((1, Keys 1 [] ∷ []) ∷ [])
    × (¬ EndFrom [] said 1 ((1, []) ∷ [])) × (¬ AskFrom [] said 0 ((1, []) ∷ (2, []) ∷ []))
ended_so = (
  (refl, tt),
  ((new_session 1 1, refl), tt),
  ((new_session 1 1, here _), tt),
  λ ends_so. cc (ends_so.0.1),
  λ asks. cc (asks.1.0),
)
