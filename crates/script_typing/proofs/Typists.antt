-- A script whose typists are apart prints what it prints where all calls are answered one after another.
use Rattle.std.proofs.Common.{◌≡◌, ◌≢◌, ◌∙◌, ap, sym, subst, refl, arith, ℕ, ◌+◌, ◌≤◌, ◌<◌, ◌==◌, Bool, true, false}
use Rattle.std.proofs.Common.{cond, suc, nat_lt}
use Rattle.std.proofs.Common.{◌&&◌, ◌||◌, not, List, [], ◌∷◌, length, drop, get_or, map}
use Rattle.std.proofs.lemmas.Bool.{and_parts, ne_eqb}
use Rattle.std.proofs.lemmas.Bool.{ltb-true, lt-ltb}
use Rattle.std.proofs.lemmas.List.Sums.{sum_by-cons}
use Rattle.std.proofs.lemmas.List.{length-map, get_or-map}
use Rattle.std.specs.List.{list_all, count_by, filter}
use Rattle.romaji_rules.specs.declared.rule.Rule.{Rule}
use Rattle.skk_calls.specs.declared.answer.Answer.{Answer}
use Rattle.skk_calls.specs.declared.entry.Entry.{Entry}
use Rattle.skk_calls.specs.Histories.{Opening as opening_value, after_entry, dialog, state_after}
use Rattle.skk_calls.specs.InteractionLaws.{led-end}
use Rattle.skk_calls.specs.Interactions.{Dialog, Leads, ends, calls_of, IsAnsweredAlone, printed_alone}
use Rattle.skk_calls.specs.Openings.{is_reply}
use Rattle.skk_calls.specs.BookLists.{has_number}
use Rattle.skk_calls.specs.States.{State, books_read, shared_books}
use Rattle.skk_calls.specs.Tallies.{tally_of, has_answer, tells_learned, tells_restored, lacks_memory, lacks_disk}
use Rattle.skk_calls.specs.Tallies.{lacks_room}
use Rattle.dict_laws.specs.OwnBooks.{is_own, is_own_entry, is_apart, gives_own, GivesOwn, AsksOwn}
use Rattle.dict_laws.specs.OwnBookLaws.{alike_itself, only_followed, own_entries, own_led}
use Rattle.skk_text.specs.PairsLaws.{list_all-filter, list_all-weaker}
use Rattle.skk_text.specs.declared.key.Key.{Key}
use Rattle.key_scripts.specs.Script.{session_of, own_lines, gives_keys, opens_well, OpenFirst}
use Rattle.key_scripts.specs.declared.line.Line.{Line}
use Rattle.key_scripts.specs.declared.line.Line.TheVariants.{Keys, Opening}
use Rattle.session_machine.specs.OwnSessions.{IsOwn}
use Rattle.session_machine.specs.Pressed.{all_pressed}
use Rattle.session_machine.specs.Session.{Session, new_session}
use Rattle.script_typing.specs.Callers.{LeadFrom}
use Rattle.script_typing.specs.MapLaws.{Ascend, above-same, by_number}
use Rattle.script_typing.specs.Playing.{playing, sessions_from, end_alone, history_alone}
use Rattle.script_typing.specs.PlayingLaws.{entries_by, said_in_all, led-alone}
use Rattle.script_typing.specs.Sessions.{session_or_new}
use Rattle.script_typing.specs.Typed.{typing}
use Rattle.script_typing.specs.Woven.{Tasks, tasks_of, lines_at, own_typing, woven, place_of, answers_by}
use Rattle.script_typing.specs.Woven.{first_session, is_private, are_apart, differ, read_apart}
use Rattle.script_typing.proofs.Apart.{StartsOwn, starts-on, IsApart, alone-woven, IsPlayed, played-apart}
use Rattle.script_typing.proofs.Places.{number_at, first_at, place-at, number-at, lines-here, lines-there, first-at}
use Rattle.script_typing.proofs.Places.{are_some, some-placed, all-named, all-at, differ-at}
use Rattle.script_typing.proofs.Tasks.{ascend-tasks, own-lines_of}

-- Books that are read

-- what stands not among books stands not among some of them
some-lack : (test : ℕ → Bool) (books : List ℕ) (number : ℕ) → has_number books number ≡ false
    → has_number (filter test books) number ≡ false
some-lack test [] number none = refl
some-lack test (book ∷ books) number none = grind (arith, some-lack test books number)

-- a typist reads no book of another whose number the typist's list lacks
own-unread : (state : State) (typist other : ℕ) → (other == typist) ≡ false
    → has_number (shared_books state typist) other ≡ false → has_number (books_read state typist) other ≡ false
own-unread state typist other differ none =
    grind (arith, some-lack (λ number. not (number == typist)) (shared_books state typist) other none)

-- Histories

-- what holds of each number that has said something holds of each entry's
by-entries : (test : ℕ → Bool) (history : List Entry)
    → ((number : ℕ) → (dialog history number ≢ []) → test number ≡ true)
    → list_all (λ entry. test entry.number) history ≡ true
by-entries test [] holds = refl
by-entries test (entry ∷ history) holds =
    grind (arith, holds entry.number, by-entries test history (λ number said. grind (arith, holds number)))

-- where no entry was refused, no call of a caller was
served-by : (history : List Entry) (number : ℕ) → list_all (λ entry. is_reply entry.answer) history ≡ true
    → list_all (λ pair. is_reply pair.1) (dialog history number) ≡ true
served-by [] number served = refl
served-by (entry ∷ history) number served = grind (arith, served-by history number)

-- what a history comes to is told by its calls and answers alone
state-of_one : (state : State) (history : List Entry)
    → state_after state (entries_by 0 (said_in_all history)) ≡ state_after state history
state-of_one state [] = refl
state-of_one state (entry ∷ history) = state-of_one (after_entry state entry) history

answers-of_one : (test : Answer → Bool) (history : List Entry)
    → count_by (λ (e : Entry). test e.answer) (entries_by 0 (said_in_all history))
    ≡ count_by (λ (e : Entry). test e.answer) history
answers-of_one test [] = refl
answers-of_one test (entry ∷ history) =
    let weigh : Entry → ℕ = λ e. cond (test e.answer) 1 0 in
    let one : Entry = record { number = 0; call = entry.call; answer = entry.answer } in
    sum_by-cons weigh one (entries_by 0 (said_in_all history))
    ∙ ap (λ n. weigh entry + n) (answers-of_one test history)
    ∙ sym (sum_by-cons weigh entry history)

any-of_one : (test : Answer → Bool) (history : List Entry)
    → has_answer test (entries_by 0 (said_in_all history)) ≡ has_answer test history
any-of_one test [] = refl
any-of_one test (entry ∷ history) = ap (λ b. test entry.answer || b) (any-of_one test history)

tally-of_one : (state : State) (history : List Entry)
    → tally_of state (entries_by 0 (said_in_all history)) ≡ tally_of state history
tally-of_one state history =
    rw (
      state-of_one state history,
      answers-of_one tells_learned history,
      answers-of_one tells_restored history,
      any-of_one lacks_memory history,
      any-of_one lacks_disk history,
      any-of_one lacks_room history,
    ) refl

-- what functions that agree at each number of tasks make of them
made-at : (f g : ℕ → Session) (tasks : Tasks)
    → ((place : ℕ) → place < length tasks → f (number_at tasks place) ≡ g (number_at tasks place))
    → by_number f tasks ≡ by_number g tasks
made-at f g [] same = refl
made-at f g (task ∷ tasks) same =
    grind (arith, same 0 (omega arith), made-at f g tasks (λ place within. same (suc place) (omega (arith, within))))

-- Ends of tasks

module _ (table : List Rule) (said : ℕ → Dialog) where
  -- the session that the lines of a number's task lead to
  abbrev end_at : (place : ℕ) (tasks : Tasks) → LeadFrom table said place tasks → ℕ → Session
  end_at place [] leads number = new_session number number
  end_at place (task ∷ tasks) leads number =
      cond (task.0 == number) leads.0.0 (end_at (place + 1) tasks leads.1 number)

  -- what the caller of its place has said leads to it
  lead-at : (place : ℕ) (tasks : Tasks) (leads : LeadFrom table said place tasks) (number : ℕ)
      → place_of tasks number < length tasks
      → Leads (own_typing table (new_session number number) (lines_at tasks number))
      (said (place + place_of tasks number)) [] (ends (end_at place tasks leads number))
  lead-at place [] leads number within = absurd (omega (arith, within))
  lead-at place (task ∷ tasks) leads number within =
      grind (
        arith,
        leads.0.1,
        lines-here task tasks number,
        lines-there task tasks number,
        lead-at (place + 1) tasks leads.1 number,
      )

-- the sessions behind the tasks are those that their lines lead to
sessions-led : (table : List Rule) (said : ℕ → Dialog) (place : ℕ) (tasks : Tasks)
    (leads : LeadFrom table said place tasks) → Ascend tasks
    → sessions_from table said place tasks ≡ by_number (end_at table said place tasks leads) tasks
sessions-led table said place [] leads ascend = refl
sessions-led table said place (task ∷ tasks) leads ascend =
    grind (
      arith,
      led-end leads.0.1,
      sessions-led table said (place + 1) tasks leads.1 ascend.1,
      above-same (end_at table said (place + 1) tasks leads.1) (end_at table said place (task ∷ tasks) leads) task.0
          (λ other differ. grind arith) tasks ascend.0,
    )

module _ (table : List Rule)
    (new_own : (typist : ℕ) → IsOwn typist (new_session typist typist))
    (keys_own : (typist : ℕ) (session : Session) (ks : List Key) → IsOwn typist session
    → AsksOwn typist (IsOwn typist) (all_pressed table session ks)) where
  -- own lines ask a typist's own calls alone
  asks-own : (typist : ℕ) (session : Session) (own : List Line) → StartsOwn typist session own
      → AsksOwn typist (IsOwn typist) (own_typing table session own)
  asks-own typist session [] starts = starts
  asks-own typist session (Keys number ks ∷ lines) starts =
      only_followed (λ call. is_own typist call ≡ true) (λ given. gives_own typist given ≡ true) (IsOwn typist)
      (IsOwn typist) (all_pressed table session ks) (λ after. own_typing table after lines)
      (keys_own typist session ks starts.0)
      (λ after own. asks-own typist after lines (starts-on typist after lines own starts.1))
  asks-own typist session (Opening number opened book ∷ lines) starts =
      asks-own typist (new_session opened book) lines
      (starts-on typist (new_session opened book) lines
      (subst (λ t. IsOwn typist (new_session t book)) (sym starts.0)
      (subst (λ b. IsOwn typist (new_session typist b)) (sym starts.1) (new_own typist)))
      starts.2)

  -- own lines begin with the session of a typist that is private
  starts : (number : ℕ) (own : List Line) → list_all opens_well own ≡ true
      → list_all gives_keys (drop 1 own) ≡ true → is_private (first_session number own) ≡ true
      → StartsOwn (first_session number own).typist (new_session number number) own
  starts number [] well keys private = new_own number
  starts number (Keys named ks ∷ lines) well keys private = (new_own number, keys)
  starts number (Opening named typist book ∷ lines) well keys private = (refl, grind arith, keys)

  module _ (opening : opening_value) (history : List Entry) (lines : List Line)
      (given_own : (typist number : ℕ) → GivesOwn typist (dialog history number))
      (answered_alone : (typist_of : ℕ → ℕ) (number : ℕ) → list_all (is_own_entry typist_of) history ≡ true
      → list_all (is_apart opening.state typist_of number) history ≡ true
      → list_all (λ pair. is_reply pair.1) (dialog history number) ≡ true
      → IsAnsweredAlone opening.files opening.state (dialog history number))
      (well : list_all opens_well lines ≡ true) (first : OpenFirst lines)
      (served : list_all (λ entry. is_reply entry.answer) history ≡ true)
      (strangers : (number : ℕ) → length (tasks_of lines) ≤ number → dialog history number ≡ [])
      (leads : LeadFrom table (dialog history) 0 (tasks_of lines)) (apart : are_apart opening.state lines ≡ true) where
    abbrev tasks : Tasks
    tasks = tasks_of lines

    abbrev typist_at : ℕ → ℕ
    typist_at place = (first_at tasks place).typist

    abbrev ended : ℕ → Session
    ended = end_at table (dialog history) 0 tasks leads

    ascend : Ascend tasks
    ascend = ascend-tasks [] lines tt

    abbrev typists : List ℕ
    typists = map (λ (s : Session). s.typist) (map (λ task. first_session task.0 task.1) tasks)

    parts : (list_all is_private (map (λ task. first_session task.0 task.1) tasks) ≡ true)
        × (differ typists ≡ true) × (read_apart opening.state typists ≡ true)
    parts =
        let both =
        and_parts (list_all is_private (map (λ task. first_session task.0 task.1) tasks))
        (differ typists && read_apart opening.state typists) apart in
        let others = and_parts (differ typists) (read_apart opening.state typists) both.1 in
        (both.0, others.0, others.1)

    private-at : (place : ℕ) → place < length tasks → is_private (first_at tasks place) ≡ true
    private-at place within =
        all-at is_private (map (λ task. first_session task.0 task.1) tasks) place (new_session 0 0)
        (omega (arith, within, length-map tasks (λ (task : ℕ × List Line). first_session task.0 task.1))) parts.0

    -- own lines start as their typist's
    starts-at : (number : ℕ) → place_of tasks number < length tasks
        → StartsOwn (typist_at (place_of tasks number)) (new_session number number) (own_lines number lines)
    starts-at number within =
        subst (λ (s : Session). StartsOwn s.typist (new_session number number) (own_lines number lines))
        (sym is)
        (starts number (own_lines number lines) (list_all-filter opens_well (λ l. session_of l == number) lines well)
        (first number)
        (subst (λ (s : Session). is_private s ≡ true) is (private-at (place_of tasks number) within)))
      where
        is : first_at tasks (place_of tasks number) ≡ first_session number (own_lines number lines)
        is = first-at tasks number within ∙ ap (first_session number) (sym (own-lines_of lines number))

    -- what its caller has said leads own lines to their end
    leads-at : (number : ℕ) → place_of tasks number < length tasks
        → Leads (own_typing table (new_session number number) (own_lines number lines))
        (dialog history (place_of tasks number)) [] (ends (ended number))
    leads-at number within =
        subst (λ (ls : List Line). Leads (own_typing table (new_session number number) ls)
        (dialog history (place_of tasks number)) [] (ends (ended number))) (sym (own-lines_of lines number))
        (subst (λ p. Leads (own_typing table (new_session number number) (lines_at tasks number)) (dialog history p) []
        (ends (ended number))) (omega arith) (lead-at table (dialog history) 0 tasks leads number within))

    -- so its calls are its typist's own
    own-named : (number : ℕ) → place_of tasks number < length tasks
        → list_all (is_own (typist_at (place_of tasks number))) (calls_of (dialog history (place_of tasks number)))
        ≡ true
    own-named number within =
        let typist = typist_at (place_of tasks number) in
        (own_led typist (IsOwn typist) (leads-at number within)
        (asks-own typist (new_session number number) (own_lines number lines) (starts-at number within))
        (given_own typist (place_of tasks number))).0

    own-at : (place : ℕ) → list_all (is_own (typist_at place)) (calls_of (dialog history place)) ≡ true
    own-at place =
        grind (arith, strangers place, place-at tasks place ascend, own-named (number_at tasks place))

    typists-long : length typists ≡ length tasks
    typists-long =
        length-map (map (λ (task : ℕ × List Line). first_session task.0 task.1) tasks) (λ (s : Session). s.typist)
        ∙ length-map tasks (λ (task : ℕ × List Line). first_session task.0 task.1)

    typist-there : (place : ℕ) → place < length tasks → get_or typists place 0 ≡ typist_at place
    typist-there place less =
        get_or-map (λ (s : Session). s.typist) (map (λ task. first_session task.0 task.1) tasks) place
        (new_session 0 0) 0
        (omega (arith, less, length-map tasks (λ (task : ℕ × List Line). first_session task.0 task.1)))

    -- typists at different places differ
    differs : (place other : ℕ) → place < length tasks → other < length tasks → place ≢ other
        → (typist_at other == typist_at place) ≡ false
    differs place other within also places =
        grind (
          arith,
          differ-at typists place other parts.1,
          typists-long,
          typist-there place within,
          typist-there other also,
        )

    -- and none reads the other's book
    unread : (place other : ℕ) → place < length tasks → other < length tasks → place ≢ other
        → has_number (books_read opening.state (typist_at place)) (typist_at other) ≡ false
    unread place other within also places =
        let apart_by : ℕ → ℕ → Bool = λ typist writer.
        writer == typist || not (has_number (shared_books opening.state typist) writer) in
        let reader : list_all (apart_by (get_or typists place 0)) typists ≡ true =
        all-at (λ typist. list_all (apart_by typist) typists) typists place 0 (omega (arith, within, typists-long))
        parts.2 in
        let writer : apart_by (get_or typists place 0) (get_or typists other 0) ≡ true =
        all-at (apart_by (get_or typists place 0)) typists other 0 (omega (arith, also, typists-long)) reader in
        own-unread opening.state (typist_at place) (typist_at other) (differs place other within also places)
        (grind (
          arith,
          writer,
          differs place other within also places,
          typist-there place within,
          typist-there other also,
        ))

    -- each entry is of a caller, or of one that is apart from it
    apart-from : (place : ℕ) → place < length tasks
        → list_all (is_apart opening.state typist_at place) history ≡ true
    apart-from place within =
        by-entries (λ other. other == place
        || not (has_number (books_read opening.state (typist_at place)) (typist_at other))) history
        (λ other said. grind (arith, strangers other, unread place other within))

    -- so each caller is answered as if it called alone
    alone-at : (place : ℕ) → place < length tasks
        → IsAnsweredAlone opening.files opening.state (dialog history place)
    alone-at place within =
        answered_alone typist_at place (own_entries typist_at history own-at) (apart-from place within)
        (served-by history place served)

    -- a session is named where it has a place
    abbrev named : ℕ → Bool
    named number = nat_lt (place_of tasks number) (length tasks)

    placed : (number : ℕ) → named number ≡ true → place_of tasks number < length tasks
    placed number is = ltb-true (place_of tasks number) (length tasks) is

    names : list_all (λ line. named (session_of line)) lines ≡ true
    names =
        list_all-weaker (λ line. are_some (own_lines (session_of line) lines)) (λ line. named (session_of line))
        (λ line some. lt-ltb (place_of tasks (session_of line)) (length tasks)
        (some-placed tasks (session_of line) (ap are_some (sym (own-lines_of lines (session_of line))) ∙ some)))
        lines (all-named [] lines)

    abbrev typist_of : ℕ → ℕ
    typist_of number = typist_at (place_of tasks number)

    -- sessions that are named and differ have places that differ
    places-differ : (number other : ℕ) → named number ≡ true → named other ≡ true → (other == number) ≡ false
        → place_of tasks number ≢ place_of tasks other
    places-differ number other is also differ_is same =
        grind (arith, number-at tasks other, number-at tasks number)

    apart-named : (number other : ℕ) → named number ≡ true → named other ≡ true → (other == number) ≡ false
        → has_number (books_read opening.state (typist_of other)) (typist_of number) ≡ false
    apart-named number other is also differ_is =
        unread (place_of tasks other) (place_of tasks number) (placed other also) (placed number is)
        (λ same. places-differ number other is also differ_is (sym same))

    known : (number : ℕ) → named number ≡ true
        → IsApart opening.files opening.state table typist_of named apart-named new_own keys_own ended number
        (new_session number number) (own_lines number lines) (answers_by (dialog history) tasks number)
        (dialog history (place_of tasks number)) opening.state opening.state
    known number is = record {
      given = refl;
      leads = leads-at number (placed number is);
      answered = alone-at (place_of tasks number) (placed number is);
      alike = alike_itself opening.state (typist_of number);
      lists = refl;
      starts = starts-at number (placed number is);
    }

    pub typists-apart : woven table [] (answers_by (dialog history) tasks) lines
        ≡ printed_alone opening.files opening.state (typing table [] lines)
    typists-apart =
        alone-woven opening.files opening.state table typist_of named apart-named new_own keys_own ended lines []
        (answers_by (dialog history) tasks) (λ number. dialog history (place_of tasks number))
        (λ number. opening.state) opening.state names known

    -- Where one caller plays the lines

    places-apart : (number other : ℕ) → named number ≡ true → named other ≡ true → (other == number) ≡ false
        → (place_of tasks number == place_of tasks other) ≡ false
    places-apart number other is also differ_is =
        ne_eqb (place_of tasks number) (place_of tasks other) (places-differ number other is also differ_is)

    played : IsPlayed opening.files opening.state table typist_of named apart-named new_own keys_own ended
        (place_of tasks) places-apart []
        (λ number. dialog history (place_of tasks number)) opening.state [] lines
    played =
        played-apart opening.files opening.state table typist_of named apart-named new_own keys_own ended
        (place_of tasks) places-apart
        lines [] (answers_by (dialog history) tasks) (λ number. dialog history (place_of tasks number))
        (λ number. opening.state) opening.state [] names tt refl known

    -- the number at a place is named
    named-at : (place : ℕ) → place < length tasks → named (number_at tasks place) ≡ true
    named-at place within =
        lt-ltb (place_of tasks (number_at tasks place)) (length tasks)
        (omega (arith, within, place-at tasks place ascend within))

    -- each caller says the same in the history of one
    said-same : (place : ℕ) → dialog played.history place ≡ dialog history place
    said-same place =
        grind (
          arith,
          strangers place,
          place-at tasks place ascend,
          played.says (number_at tasks place),
          named-at place,
          λ (behind : length tasks ≤ place).
              played.strangers place (λ number is. grind (arith, behind, placed number is)),
        )

    -- callers that have said something have typists that differ
    callers-differ : (first second : ℕ) → dialog history first ≢ [] → dialog history second ≢ []
        → typist_at first ≡ typist_at second → first ≡ second
    callers-differ first second some also same =
        grind (arith, strangers first, strangers second, differs second first)

    -- the sessions behind the lines are those that the callers' own lines end with
    sessions-played : sessions_from table (dialog history) 0 tasks ≡ played.behind
    sessions-played =
        sessions-led table (dialog history) 0 tasks leads ascend
        ∙ sym (played.numbers ∙ made-at (session_or_new played.behind) ended tasks
        (λ place within. played.ends_so (number_at tasks place) (named-at place within)))

    pub typists-play : ((typist_at' : ℕ → ℕ) (other : List Entry)
        → ((number : ℕ) → dialog other number ≡ dialog history number)
        → list_all (is_own_entry typist_at') history ≡ true
        → ((first second : ℕ) → dialog history first ≢ [] → dialog history second ≢ []
        → typist_at' first ≡ typist_at' second → first ≡ second)
        → tally_of opening.state other ≡ tally_of opening.state history)
        → (sessions_from table (dialog history) 0 tasks
        ≡ end_alone opening.files opening.state (playing table [] lines))
        × (tally_of opening.state history
        ≡ tally_of opening.state (history_alone opening.files opening.state (playing table [] lines)))
    typists-play one_tally =
        let alone = led-alone played.behind opening.files opening.state played.leads played.answered in (
          sessions-played ∙ sym alone.1,
          sym (one_tally typist_at played.history said-same (own_entries typist_at history own-at) callers-differ)
              ∙ sym (tally-of_one opening.state played.history)
              ∙ ap (tally_of opening.state) (sym alone.0),
        )
