-- Lines that open no session: each session is its own typist.
use Rattle.std.specs.Bool.{⊤}
use Rattle.std.proofs.Common.{◌≡◌, ◌||◌, ap, sym, subst, refl, arith, ℕ, ◌==◌, Bool, true, false, not, drop}
use Rattle.std.proofs.Common.{◌&&◌, List, [], ◌∷◌, ◌++◌, map}
use Rattle.std.proofs.lemmas.Bool.{and_from}
use Rattle.std.proofs.lemmas.List.Folds.{list_all-append}
use Rattle.std.specs.BTreeMap.{insert_entry}
use Rattle.std.specs.List.{fold, list_all}
use Rattle.std.specs.Ordering.{nat_cmp}
use Rattle.skk_text.specs.PairsLaws.{list_all-filter, list_all-weaker}
use Rattle.skk_calls.specs.declared.book_list.TypistList.{TypistList}
use Rattle.skk_calls.specs.BookLists.{has_number}
use Rattle.skk_calls.specs.States.{State, list_in, listed_books, shared_books}
use Rattle.key_scripts.specs.Script.{OpenFirst, gives_keys, opens_well, own_lines, session_of}
use Rattle.key_scripts.specs.declared.line.Line.{Line}
use Rattle.key_scripts.specs.declared.line.Line.TheVariants.{Keys, Opening}
use Rattle.session_machine.specs.Session.{Session, new_session}
use Rattle.script_typing.specs.MapLaws.{Ascend, AreAbove}
use Rattle.script_typing.specs.Woven.{Tasks, lines_at, with_line, tasks_of, first_session, is_private, differ}
use Rattle.script_typing.specs.Woven.{are_apart, read_apart}
use Rattle.script_typing.proofs.Tasks.{ascend-tasks}

-- a line that gives keys opens nothing
opens-nothing : (line : Line) → gives_keys line ≡ true → opens_well line ≡ true
opens-nothing (Keys number ks) keys = refl
opens-nothing (Opening number typist book) keys = absurd (cc keys)

pub keys-well : (lines : List Line) → list_all gives_keys lines ≡ true → list_all opens_well lines ≡ true
keys-well = list_all-weaker gives_keys opens_well opens-nothing

-- what all lines pass, all but the first do
all-but_first : (test : Line → Bool) (lines : List Line) → list_all test lines ≡ true
    → list_all test (drop 1 lines) ≡ true
all-but_first test [] all = refl
all-but_first test (line ∷ lines) all = grind arith

pub keys-first : (lines : List Line) → list_all gives_keys lines ≡ true → OpenFirst lines
keys-first lines keys number =
    all-but_first gives_keys (own_lines number lines)
    (list_all-filter gives_keys (λ line. session_of line == number) lines keys)

-- tasks of lines that give keys, of no session 0
abbrev AreKeys : Tasks → Type 0
AreKeys [] = ⊤
AreKeys (task ∷ tasks) = (list_all gives_keys task.1 ≡ true) × ((task.0 == 0) ≡ false) × AreKeys tasks

keys-at : (tasks : Tasks) (number : ℕ) → AreKeys tasks → list_all gives_keys (lines_at tasks number) ≡ true
keys-at [] number keys = refl
keys-at (task ∷ tasks) number keys = grind (arith, keys-at tasks number keys.2)

keys-put : (tasks : Tasks) (number : ℕ) (lines : List Line) → AreKeys tasks → list_all gives_keys lines ≡ true
    → (number == 0) ≡ false → AreKeys (insert_entry nat_cmp tasks number lines)
keys-put [] number lines are keys some = (keys, some, tt)
keys-put (task ∷ tasks) number lines are keys some = grind (arith, keys-put tasks number lines are.2 keys some)

keys-tasks : (tasks : Tasks) (lines : List Line) → AreKeys tasks → list_all gives_keys lines ≡ true
    → list_all (λ line. not (session_of line == 0)) lines ≡ true → AreKeys (fold with_line tasks lines)
keys-tasks tasks [] are keys some = are
keys-tasks tasks (line ∷ lines) are keys some =
    let own = lines_at tasks (session_of line) in
    grind (
      arith,
      keys-tasks (with_line tasks line) lines,
      keys-put tasks (session_of line) (own ++ line ∷ []) are,
      list_all-append gives_keys own (line ∷ []),
      keys-at tasks (session_of line) are,
    )

-- each task begins with a session of its own
first-own : (number : ℕ) (lines : List Line) → list_all gives_keys lines ≡ true
    → first_session number lines ≡ new_session number number
first-own number [] keys = refl
first-own number (Keys session ks ∷ lines) keys = refl
first-own number (Opening session typist book ∷ lines) keys = absurd (cc keys)

firsts : (tasks : Tasks) → AreKeys tasks
    → map (λ task. first_session task.0 task.1) tasks ≡ map (λ task. new_session task.0 task.0) tasks
firsts [] are = refl
firsts (task ∷ tasks) are = grind (arith, first-own task.0 task.1 are.0, firsts tasks are.2)

-- which is private
all-private : (tasks : Tasks) → AreKeys tasks
    → list_all is_private (map (λ task. new_session task.0 task.0) tasks) ≡ true
all-private [] are = refl
all-private (task ∷ tasks) are = grind (arith, are.1, all-private tasks are.2)

-- and has a typist that no other has
above-differ : (number : ℕ) (tasks : Tasks) → AreAbove number tasks
    → list_all (λ other. not (other == number))
    (map (λ (s : Session). s.typist) (map (λ task. new_session task.0 task.0) tasks)) ≡ true
above-differ number [] above = refl
above-differ number (task ∷ tasks) above = grind (arith, above-differ number tasks)

all-differ : (tasks : Tasks) → Ascend tasks
    → differ (map (λ (s : Session). s.typist) (map (λ task. new_session task.0 task.0) tasks)) ≡ true
all-differ [] ascend = refl
all-differ (task ∷ tasks) ascend = grind (arith, above-differ task.0 tasks ascend.0, all-differ tasks ascend.1)

-- and is not 0
all-some : (tasks : Tasks) → AreKeys tasks
    → list_all (λ typist. not (typist == 0))
    (map (λ (s : Session). s.typist) (map (λ task. new_session task.0 task.0) tasks)) ≡ true
all-some [] are = refl
all-some (task ∷ tasks) are = grind (arith, are.1, all-some tasks are.2)

-- where no typist has a list each reads the shared book alone beside the own one
shared-alone : (state : State) → state.lists ≡ [] → (typist : ℕ) → shared_books state typist ≡ 0 ∷ []
shared-alone state none typist = ap (λ (lists : List TypistList). listed_books (list_in typist lists)) none

others-unread : (state : State) → state.lists ≡ [] → (typist : ℕ) (typists : List ℕ)
    → list_all (λ other. not (other == 0)) typists ≡ true
    → list_all (λ other. other == typist || not (has_number (shared_books state typist) other)) typists ≡ true
others-unread state none typist [] some = refl
others-unread state none typist (other ∷ typists) some =
    grind (arith, shared-alone state none typist, others-unread state none typist typists)

all-unread : (state : State) → state.lists ≡ [] → (typists readers : List ℕ)
    → list_all (λ other. not (other == 0)) typists ≡ true
    → list_all (λ typist.
    list_all (λ other. other == typist || not (has_number (shared_books state typist) other)) typists) readers ≡ true
all-unread state none typists [] some = refl
all-unread state none typists (reader ∷ readers) some =
    and_from
    (list_all (λ other. other == reader || not (has_number (shared_books state reader) other)) typists)
    (list_all (λ typist.
    list_all (λ other. other == typist || not (has_number (shared_books state typist) other)) typists) readers)
    (others-unread state none reader typists some) (all-unread state none typists readers some)

pub keys-apart : (state : State) (lines : List Line) → state.lists ≡ [] → list_all gives_keys lines ≡ true
    → list_all (λ line. not (session_of line == 0)) lines ≡ true → are_apart state lines ≡ true
keys-apart state lines none keys some =
    let typists = map (λ (s : Session). s.typist)
    (map (λ (t : ℕ × List Line). new_session t.0 t.0) (tasks_of lines)) in
    subst (λ (sessions : List Session). (list_all is_private sessions
    && (differ (map (λ (s : Session). s.typist) sessions)
    && read_apart state (map (λ (s : Session). s.typist) sessions))) ≡ true)
    (sym (firsts (tasks_of lines) are))
    (and_from (list_all is_private (map (λ (t : ℕ × List Line). new_session t.0 t.0) (tasks_of lines)))
    (differ typists && read_apart state typists) (all-private (tasks_of lines) are)
    (and_from (differ typists) (read_apart state typists) (all-differ (tasks_of lines) (ascend-tasks [] lines tt))
    (all-unread state none typists typists (all-some (tasks_of lines) are))))
  where
    are : AreKeys (tasks_of lines)
    are = keys-tasks [] lines tt keys some
