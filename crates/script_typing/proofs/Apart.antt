-- Sessions whose typists are apart print what they print where all calls are answered one after another.
use Rattle.std.proofs.Common.{◌≡◌, ◌∙◌, ap, sym, subst, refl, arith, ℕ, ◌==◌, Bool, true, false, cond}
use Rattle.std.proofs.Common.{None, Some, List, [], ◌∷◌, ◌++◌, ◌&&◌, All, not, append_assoc}
use Rattle.std.proofs.lemmas.Bool.{and_from, and_parts, cond_both, eq-eqb, eqb-true, not-true}
use Rattle.std.proofs.lemmas.List.{append-nil, map-append}
use Rattle.std.specs.List.{filter, fold, list_all}
use Rattle.romaji_rules.specs.declared.rule.Rule.{Rule}
use Rattle.skk_calls.specs.declared.answer.Answer.{Answer}
use Rattle.skk_calls.specs.declared.call.Call.{Call}
use Rattle.skk_calls.specs.declared.call.Call.TheVariants.{Lookup, Complete, Learn, Purge, Annotate, Share, Unlearn}
use Rattle.skk_calls.specs.declared.book_list.TypistList.{TypistList}
use Rattle.skk_calls.specs.BookLists.{has_number}
use Rattle.skk_calls.specs.Dictionary.{after, is_share, moves, state_moved}
use Rattle.skk_calls.specs.declared.entry.Entry.{Entry}
use Rattle.skk_calls.specs.Histories.{after_calls, dialog}
use Rattle.skk_calls.specs.InteractionLaws.{leads-on}
use Rattle.skk_calls.specs.Interactions.{Interaction, ends, asks, prints, followed_by, Dialog, Leads, here, asking}
use Rattle.skk_calls.specs.Interactions.{printing}
use Rattle.skk_calls.specs.Interactions.{calls_of, answers_of, IsAnsweredAlone, printed_alone}
use Rattle.skk_calls.specs.Rows.{Row}
use Rattle.skk_calls.specs.States.{State, books_read, list_in, listed_books}
use Rattle.dict_laws.specs.Filtered.{all_both}
use Rattle.dict_laws.specs.OwnBooks.{owner, is_own, LookAlike, AsksOwn}
use Rattle.dict_laws.specs.OwnBookLaws.{own_dialog_alike, alone_gives_own, own_led, others_leave_alike}
use Rattle.dict_laws.specs.ReadBooks.{SameRows, read_alike}
use Rattle.skk_text.specs.declared.key.Key.{Key}
use Rattle.key_scripts.specs.Script.{session_of, own_lines, gives_keys}
use Rattle.key_scripts.specs.declared.line.Line.{Line}
use Rattle.key_scripts.specs.declared.line.Line.TheVariants.{Keys, Opening}
use Rattle.session_machine.specs.OwnSessions.{IsOwn}
use Rattle.session_machine.specs.Pressed.{all_pressed}
use Rattle.session_machine.specs.Session.{Session, new_session}
use Rattle.script_typing.specs.MapLaws.{Ascend, ascend-put, by_number}
use Rattle.script_typing.specs.Playing.{playing}
use Rattle.script_typing.specs.PlayingLaws.{entries_by, said_in_all}
use Rattle.script_typing.specs.Printing.{output_line}
use Rattle.script_typing.specs.Sessions.{SessionMap, session_or_new, with_session}
use Rattle.script_typing.specs.Typed.{closing_lines, typing, Asking}
use Rattle.script_typing.specs.Woven.{Tasks, lines_at, with_line, own_typing, Given, with_given, taken, woven}
use Rattle.script_typing.proofs.Weaving.{own-first, own-other, session-put, session-others, sessions-put}

-- what an interaction leads to is taken from the head of its answers
taken-led : {S : Type 0} {from : Interaction S} {dialog : Dialog} {text : List ℕ} (end : S) (more : List Answer)
    → Leads from dialog text (ends end) → taken from (answers_of dialog ++ more) ≡ Some (end, more)
taken-led end more (here from) = refl
taken-led end more (asking call next given dialog text to way) = taken-led end more way
taken-led end more (printing first rest dialog text to way) = taken-led end more way

-- a way through an interaction and what follows behind it is one through each
record Halves {S T : Type 0} (from : Interaction S) (behind : S → Interaction T) (dialog : Dialog)
    (text : List ℕ) (end : T) : Type 0 where
  pub first : Dialog
  pub rest : Dialog
  pub printed : List ℕ
  pub more : List ℕ
  pub middle : S
  pub is : dialog ≡ first ++ rest
  pub prints : text ≡ printed ++ more
  pub leads : Leads from first printed (ends middle)
  pub on : Leads (behind middle) rest more (ends end)

halves : {S T : Type 0} (from : Interaction S) (behind : S → Interaction T) {dialog : Dialog} {text : List ℕ} (end : T)
    → Leads (followed_by from behind) dialog text (ends end) → Halves from behind dialog text end
halves (ends value) behind {dialog = dialog} {text = text} end way = record {
  first = [];
  rest = dialog;
  printed = [];
  more = text;
  middle = value;
  is = refl;
  prints = refl;
  leads = here (ends value);
  on = way;
}
halves (asks call next) behind end (asking _ _ given dialog text _ way) =
    let rest = halves (next given) behind end way in
    record {
      first = (call, given) ∷ rest.first;
      rest = rest.rest;
      printed = rest.printed;
      more = rest.more;
      middle = rest.middle;
      is = ap (λ d. (call, given) ∷ d) rest.is;
      prints = rest.prints;
      leads = asking call next given rest.first rest.printed (ends rest.middle) rest.leads;
      on = rest.on;
    }
halves (prints first more) behind end (printing _ _ dialog text _ way) =
    let rest = halves more behind end way in
    record {
      first = rest.first;
      rest = rest.rest;
      printed = first ++ rest.printed;
      more = rest.more;
      middle = rest.middle;
      is = rest.is;
      prints = ap (λ t. first ++ t) rest.prints ∙ sym (append_assoc first rest.printed rest.more);
      leads = printing first more rest.first rest.printed (ends rest.middle) rest.leads;
      on = rest.on;
    }

-- a dialog that the dictionary of one thread answers is two, one behind the other
alone-halves : (files : List (List Row)) (state : State) (first rest : Dialog)
    → IsAnsweredAlone files state (first ++ rest)
    → IsAnsweredAlone files state first × IsAnsweredAlone files (after_calls state (calls_of first)) rest
alone-halves files state [] rest alone = (tt, alone)
alone-halves files state (pair ∷ first) rest alone =
    let both = alone-halves files (after state pair.0) first rest alone.1 in
    ((alone.0, both.0), both.1)

-- what is printed on a way whose calls the dictionary of one thread answers, and then by what follows behind it
alone-led : {S T : Type 0} (files : List (List Row)) (state : State) {from : Interaction S} {dialog : Dialog}
    {text : List ℕ} (end : S) (behind : S → Interaction T) → Leads from dialog text (ends end)
    → IsAnsweredAlone files state dialog
    → printed_alone files state (followed_by from behind)
    ≡ text ++ printed_alone files (after_calls state (calls_of dialog)) (behind end)
alone-led files state end behind (here from) alone = refl
alone-led files state end behind (asking call next given dialog text to way) alone =
    ap (λ a. printed_alone files (after state call) (followed_by (next a) behind)) (sym alone.0)
    ∙ alone-led files (after state call) end behind way alone.1
alone-led files state end behind (printing first rest dialog text to way) alone =
    ap (λ t. first ++ t) (alone-led files state end behind way alone)
    ∙ sym (append_assoc first text (printed_alone files (after_calls state (calls_of dialog)) (behind end)))

-- a dialog that the dictionary of one thread answers, and another behind it, are one
alone-joined : (files : List (List Row)) (state : State) (first rest : Dialog)
    → IsAnsweredAlone files state first → IsAnsweredAlone files (after_calls state (calls_of first)) rest
    → IsAnsweredAlone files state (first ++ rest)
alone-joined files state [] rest alone behind = behind
alone-joined files state (pair ∷ first) rest alone behind =
    (alone.0, alone-joined files (after state pair.0) first rest alone.1 behind)

-- what an interaction leads to is where what follows behind it goes on
led-followed : {S T : Type 0} {from : Interaction S} {dialog : Dialog} {text : List ℕ} (end : S)
    (behind : S → Interaction T) → Leads from dialog text (ends end)
    → Leads (followed_by from behind) dialog text (behind end)
led-followed end behind (here from) = here (behind end)
led-followed end behind (asking call next given dialog text to way) =
    asking call (λ answer. followed_by (next answer) behind) given dialog text (behind end)
    (led-followed end behind way)
led-followed end behind (printing first rest dialog text to way) =
    printing first (followed_by rest behind) dialog text (behind end) (led-followed end behind way)

-- what has ended leads nowhere else
ends-led : {S : Type 0} (value end : S) {dialog : Dialog} {text : List ℕ} → Leads (ends value) dialog text (ends end)
    → (dialog ≡ []) × (value ≡ end)
ends-led value end (here _) = (refl, refl)

-- Entries of a caller

-- a dialog and then a history say one behind the other
said-entries : (number : ℕ) (first : Dialog) (history : List Entry)
    → said_in_all (entries_by number first ++ history) ≡ first ++ said_in_all history
said-entries number [] history = refl
said-entries number (pair ∷ first) history = ap (λ d. pair ∷ d) (said-entries number first history)

-- and of a caller what it has said in both
dialog-entries : (number other : ℕ) (first : Dialog) (history : List Entry)
    → dialog (entries_by number first ++ history) other ≡ cond (number == other) first [] ++ dialog history other
dialog-entries number other [] history = grind arith
dialog-entries number other (pair ∷ first) history = grind (arith, dialog-entries number other first history)

-- Sessions in front of lines

-- own lines find a session that is a typist's own, or open one first, and open none behind that
abbrev pub StartsOwn : ℕ → Session → List Line → Type 0
StartsOwn typist session [] = IsOwn typist session
StartsOwn typist session (Keys number ks ∷ lines) = IsOwn typist session × (list_all gives_keys lines ≡ true)
StartsOwn typist session (Opening number own book ∷ lines) =
    (own ≡ typist) × (book ≡ typist) × (list_all gives_keys lines ≡ true)

-- lines of keys alone find a session that is a typist's own
pub starts-on : (typist : ℕ) (session : Session) (lines : List Line) → IsOwn typist session
    → list_all gives_keys lines ≡ true → StartsOwn typist session lines
starts-on typist session [] own keys = own
starts-on typist session (Keys number ks ∷ lines) own keys = (own, keys)
starts-on typist session (Opening number other book ∷ lines) own keys = absurd (cc keys)

-- calls that are a typist's own leave the lists of books
moved-lists : (state : State) (call : Call) → is_share call ≡ false → (state_moved state call).lists ≡ state.lists
moved-lists state (Lookup who key okuri) e = refl
moved-lists state (Complete who prefix) e = refl
moved-lists state (Learn book key okuri cand) e = refl
moved-lists state (Purge book key word) e = refl
moved-lists state (Annotate book key cand) e = refl
moved-lists state (Share who books) e = absurd (cc)
moved-lists state (Unlearn learned) e = refl

own-lists : (writer : ℕ) (calls : List Call) (state : State) → list_all (is_own writer) calls ≡ true
    → (after_calls state calls).lists ≡ state.lists
own-lists writer [] state own = refl
own-lists writer (call ∷ calls) state own =
    let owns = and_parts (is_own writer call) (list_all (is_own writer) calls) own in
    let kept = not-true (is_share call) (and_parts (not (is_share call)) (owner call == writer) owns.0).0 in
    own-lists writer calls (after state call) owns.1
    ∙ cond_both (moves state call) (state_moved state call) state (λ s. s.lists ≡ state.lists)
    (λ _. moved-lists state call kept) (λ _. refl)

-- what looks like a state that looks like another looks like that
alike-on : (typist : ℕ) (alone all next : State) → LookAlike typist alone all → LookAlike typist all next
    → LookAlike typist alone next
alike-on typist alone all next alike leaves = (
  leaves.0 ∙ alike.0,
  leaves.1 ∙ alike.1,
  all_both (SameRows alone all) (SameRows all next) (SameRows alone next) (λ number one two. two ∙ one)
      (books_read alone typist) alike.2
      (subst (λ books. All (SameRows all next) books) (read_alike [] alone all typist alike.1 alike.2) leaves.2),
)

module _ (files : List (List Row)) (start : State) (table : List Rule) (typist_of : ℕ → ℕ) (named : ℕ → Bool)
    (apart : (number other : ℕ) → named number ≡ true → named other ≡ true → (other == number) ≡ false
    → has_number (books_read start (typist_of other)) (typist_of number) ≡ false)
    (new_own : (typist : ℕ) → IsOwn typist (new_session typist typist))
    (keys_own : (typist : ℕ) (session : Session) (ks : List Key) → IsOwn typist session
    → AsksOwn typist (IsOwn typist) (all_pressed table session ks))
    (ended : ℕ → Session) where
  -- what is known of the session of a number in front of lines, where one state is the dictionary's that answers it
  -- alone, and the other that of the dictionary that answers all sessions
  pub record IsApart (number : ℕ) (session : Session) (own : List Line) (answers : List Answer) (dialog : Dialog)
      (alone all : State) : Type 0 where
    pub given : answers ≡ answers_of dialog
    pub leads : Leads (own_typing table session own) dialog [] (ends (ended number))
    pub answered : IsAnsweredAlone files alone dialog
    pub alike : LookAlike (typist_of number) alone all
    pub lists : all.lists ≡ start.lists
    pub starts : StartsOwn (typist_of number) session own

  -- what is known of each session that is named
  abbrev pub AreApart : SessionMap → Given → (ℕ → Dialog) → (ℕ → State) → State → List Line → Type 0
  AreApart sessions given dialogs states all lines =
      (number : ℕ) → named number ≡ true
      → IsApart number (session_or_new sessions number) (own_lines number lines) (given number) (dialogs number)
      (states number) all

  -- a value for one number, and those of a function for the others
  abbrev with_one : {A : Type 0} → (ℕ → A) → ℕ → A → ℕ → A
  with_one f number value other = cond (other == number) value (f other)

  -- own calls of another typist leave a state that looks alike
  others-leave : (writer number : ℕ) (calls : List Call) (alone all : State)
      → has_number (books_read start (typist_of number)) writer ≡ false → all.lists ≡ start.lists
      → list_all (is_own writer) calls ≡ true
      → LookAlike (typist_of number) alone all → LookAlike (typist_of number) alone (after_calls all calls)
  others-leave writer number [] alone all unread lists own alike = alike
  others-leave writer number (call ∷ calls) alone all unread lists own alike =
      let owns = and_parts (is_own writer call) (list_all (is_own writer) calls) own in
      let parts = and_parts (not (is_share call)) (owner call == writer) owns.0 in
      let is : owner call ≡ writer = eqb-true (owner call) writer parts.1 in
      let reads : has_number (books_read all (typist_of number)) (owner call) ≡ false =
      ap (λ (all_lists : List TypistList). has_number (typist_of number
      ∷ filter (λ book. not (book == typist_of number)) (listed_books (list_in (typist_of number) all_lists)))
      (owner call)) lists
      ∙ ap (has_number (books_read start (typist_of number))) is ∙ unread in
      let leaves = others_leave_alike all (typist_of number) call (not-true (is_share call) parts.0) reads in
      others-leave writer number calls alone (after all call) unread
      (own-lists writer (call ∷ []) all (and_from (is_own writer call) true owns.0 refl) ∙ lists) owns.1
      (alike-on (typist_of number) alone all (after all call) alike leaves)

  -- what is woven of lines is what is printed where all calls are answered one after another
  abbrev Alone : List Line → Type 0
  Alone lines =
      (sessions : SessionMap) (given : Given) (dialogs : ℕ → Dialog) (states : ℕ → State) (all : State)
      → list_all (λ line. named (session_of line)) lines ≡ true
      → AreApart sessions given dialogs states all lines
      → woven table sessions given lines ≡ printed_alone files all (typing table sessions lines)

  -- nothing is in front of nothing
  no_front : (front behind : List ℕ) → [] ≡ front ++ behind → front ≡ []
  no_front [] behind is = refl
  no_front (x ∷ front) behind is = absurd (cc is)

  -- what is known of each session behind an opening line
  opened-next : (number typist book : ℕ) (lines : List Line) (sessions : SessionMap) (given : Given)
      (dialogs : ℕ → Dialog) (states : ℕ → State) (all : State)
      → AreApart sessions given dialogs states all (Opening number typist book ∷ lines)
      → AreApart (with_session sessions number (new_session typist book)) given dialogs states all lines
  opened-next number typist book lines sessions given dialogs states all are other is_named =
      by (other == number) refl
    where
      opening_line : Line
      opening_line = Opening number typist book

      opened : Session
      opened = new_session typist book

      by : (b : Bool) → (other == number) ≡ b
          → IsApart other (session_or_new (with_session sessions number (new_session typist book)) other)
          (own_lines other lines) (given other) (dialogs other) (states other) all
      by true is =
          let same : other ≡ number = eqb-true other number is in
          subst (λ n. IsApart n (session_or_new (with_session sessions number opened) n) (own_lines n lines)
          (given n) (dialogs n) (states n) all) (sym same)
          (subst (λ (s : Session). IsApart number s (own_lines number lines) (given number) (dialogs number)
          (states number) all) (sym (session-put sessions number opened))
          (begun (subst (λ (ls : List Line). IsApart number (session_or_new sessions number) ls (given number)
          (dialogs number) (states number) all) (own-first opening_line lines)
          (are number (subst (λ n. named n ≡ true) same is_named)))))
        where
          begun : IsApart number (session_or_new sessions number) (opening_line ∷ own_lines number lines)
              (given number) (dialogs number) (states number) all
              → IsApart number opened (own_lines number lines) (given number) (dialogs number) (states number) all
          begun known = record {
            given = known.given;
            leads = known.leads;
            answered = known.answered;
            alike = known.alike;
            lists = known.lists;
            starts =
                starts-on (typist_of number) opened (own_lines number lines)
                (subst (λ t. IsOwn (typist_of number) (new_session t book)) (sym known.starts.0)
                (subst (λ b. IsOwn (typist_of number) (new_session (typist_of number) b)) (sym known.starts.1)
                (new_own (typist_of number))))
                known.starts.2;
          }
      by false differ =
          subst (λ (s : Session). IsApart other s (own_lines other lines) (given other) (dialogs other)
          (states other) all) (sym (session-others sessions number opened other differ))
          (subst (λ (ls : List Line). IsApart other (session_or_new sessions other) ls (given other)
          (dialogs other) (states other) all) (own-other opening_line lines other differ)
          (are other is_named))

  -- an opening line in front
  alone-opened : (number typist book : ℕ) (lines : List Line) → Alone lines
      → Alone (Opening number typist book ∷ lines)
  alone-opened number typist book lines behind sessions given dialogs states all names are =
      behind (with_session sessions number (new_session typist book)) given dialogs states all
      (and_parts (named number) (list_all (λ line. named (session_of line)) lines) names).1
      (opened-next number typist book lines sessions given dialogs states all are)

  -- a line of keys in front
  module _ (number : ℕ) (ks : List Key) (lines : List Line) (sessions : SessionMap) (given : Given)
      (dialogs : ℕ → Dialog) (states : ℕ → State) (all : State)
      (names : list_all (λ line. named (session_of line)) (Keys number ks ∷ lines) ≡ true)
      (are : AreApart sessions given dialogs states all (Keys number ks ∷ lines)) where
    abbrev keys_line : Line
    keys_line = Keys number ks

    abbrev session : Session
    session = session_or_new sessions number

    is_named : named number ≡ true
    is_named = (and_parts (named number) (list_all (λ line. named (session_of line)) lines) names).0

    -- what is known of its session
    known : IsApart number session (keys_line ∷ own_lines number lines) (given number) (dialogs number)
        (states number) all
    known =
        subst (λ (ls : List Line). IsApart number session ls (given number) (dialogs number) (states number) all)
        (own-first keys_line lines) (are number is_named)

    -- its keys, and what comes behind them
    parts : Halves (all_pressed table session ks) (λ a. own_typing table a (own_lines number lines))
        (dialogs number) [] (ended number)
    parts =
        halves (all_pressed table session ks) (λ a. own_typing table a (own_lines number lines)) (ended number)
        known.leads

    led : Leads (all_pressed table session ks) parts.first [] (ends parts.middle)
    led =
        subst (λ t. Leads (all_pressed table session ks) parts.first t (ends parts.middle))
        (no_front parts.printed parts.more parts.prints) parts.leads

    led_on : Leads (own_typing table parts.middle (own_lines number lines)) parts.rest [] (ends (ended number))
    led_on =
        subst (λ t. Leads (own_typing table parts.middle (own_lines number lines)) parts.rest t
        (ends (ended number)))
        (sym (parts.prints ∙ ap (λ p. p ++ parts.more) (no_front parts.printed parts.more parts.prints)))
        parts.on

    taking : taken (all_pressed table session ks) (given number) ≡ Some (parts.middle, answers_of parts.rest)
    taking =
        ap (taken (all_pressed table session ks))
        (known.given ∙ ap answers_of parts.is ∙ map-append (λ pair. pair.1) parts.first parts.rest)
        ∙ taken-led parts.middle (answers_of parts.rest) led

    answered : IsAnsweredAlone files (states number) parts.first
        × IsAnsweredAlone files (after_calls (states number) (calls_of parts.first)) parts.rest
    answered =
        alone-halves files (states number) parts.first parts.rest
        (subst (IsAnsweredAlone files (states number)) parts.is known.answered)

    -- its calls are the typist's own, and so is the session behind them
    own : (list_all (is_own (typist_of number)) (calls_of parts.first) ≡ true) × IsOwn (typist_of number) parts.middle
    own =
        own_led (typist_of number) (IsOwn (typist_of number)) led
        (keys_own (typist_of number) session ks known.starts.0)
        (alone_gives_own (typist_of number) files (states number) parts.first answered.0)

    both : IsAnsweredAlone files all parts.first
        × LookAlike (typist_of number) (after_calls (states number) (calls_of parts.first))
        (after_calls all (calls_of parts.first))
    both =
        own_dialog_alike (typist_of number) files (states number) all parts.first known.alike own.0 answered.0

    -- what is known of each session behind the line
    next : AreApart (with_session sessions number parts.middle) (with_given given number (answers_of parts.rest))
        (with_one dialogs number parts.rest)
        (with_one states number (after_calls (states number) (calls_of parts.first)))
        (after_calls all (calls_of parts.first)) lines
    next other other_named = by (other == number) refl
      where
        by : (b : Bool) → (other == number) ≡ b
            → IsApart other (session_or_new (with_session sessions number parts.middle) other) (own_lines other lines)
            (cond b (answers_of parts.rest) (given other)) (cond b parts.rest (dialogs other))
            (cond b (after_calls (states number) (calls_of parts.first)) (states other))
            (after_calls all (calls_of parts.first))
        by true is =
            let same : other ≡ number = eqb-true other number is in
            subst (λ n. IsApart n (session_or_new (with_session sessions number parts.middle) n) (own_lines n lines)
            (answers_of parts.rest) parts.rest (after_calls (states number) (calls_of parts.first))
            (after_calls all (calls_of parts.first))) (sym same)
            (subst (λ (s : Session). IsApart number s (own_lines number lines) (answers_of parts.rest) parts.rest
            (after_calls (states number) (calls_of parts.first)) (after_calls all (calls_of parts.first)))
            (sym (session-put sessions number parts.middle))
            (record {
              given = refl;
              leads = led_on;
              answered = answered.1;
              alike = both.1;
              lists = own-lists (typist_of number) (calls_of parts.first) all own.0 ∙ known.lists;
              starts = starts-on (typist_of number) parts.middle (own_lines number lines) own.1 known.starts.1;
            }))
        by false differ =
            subst (λ (s : Session). IsApart other s (own_lines other lines) (given other) (dialogs other)
            (states other) (after_calls all (calls_of parts.first)))
            (sym (session-others sessions number parts.middle other differ))
            (kept (subst (λ (ls : List Line). IsApart other (session_or_new sessions other) ls (given other)
            (dialogs other) (states other) all) (own-other keys_line lines other differ)
            (are other other_named)))
          where
            kept : IsApart other (session_or_new sessions other) (own_lines other lines) (given other)
                (dialogs other) (states other) all
                → IsApart other (session_or_new sessions other) (own_lines other lines) (given other)
                (dialogs other) (states other) (after_calls all (calls_of parts.first))
            kept before = record {
              given = before.given;
              leads = before.leads;
              answered = before.answered;
              alike =
                  others-leave (typist_of number) other (calls_of parts.first) (states other) all
                  (apart number other is_named other_named differ) known.lists own.0 before.alike;
              lists = own-lists (typist_of number) (calls_of parts.first) all own.0 ∙ known.lists;
              starts = before.starts;
            }

    -- what comes behind its keys where one caller types all lines
    abbrev typed_behind : Session → Asking
    typed_behind after = prints (output_line number after) (typing table (with_session sessions number after) lines)

    alone-keys : Alone lines
        → woven table sessions given (keys_line ∷ lines)
        ≡ printed_alone files all (typing table sessions (keys_line ∷ lines))
    alone-keys behind =
        ap (λ t. elim t [
          | None ↦ []
          | Some (after, left) ↦
              output_line number after
              ++ woven table (with_session sessions number after) (with_given given number left) lines
        ]) taking
        ∙ ap (λ text. output_line number parts.middle ++ text)
        (behind (with_session sessions number parts.middle) (with_given given number (answers_of parts.rest))
        (with_one dialogs number parts.rest)
        (with_one states number (after_calls (states number) (calls_of parts.first)))
        (after_calls all (calls_of parts.first))
        (and_parts (named number) (list_all (λ line. named (session_of line)) lines) names).1 next)
        ∙ sym (alone-led files all parts.middle typed_behind led both.0)

  alone-none : Alone []
  alone-none sessions given dialogs states all names are = sym (append-nil (closing_lines sessions))

  -- any lines
  pub alone-woven : (lines : List Line) → Alone lines
  alone-woven [] = alone-none
  alone-woven (Keys number ks ∷ lines) =
      λ sessions given dialogs states all names are.
      alone-keys number ks lines sessions given dialogs states all names are (alone-woven lines)
  alone-woven (Opening number typist book ∷ lines) = alone-opened number typist book lines (alone-woven lines)

  -- Lines that one caller plays

  module _ (place : ℕ → ℕ)
      (places : (number other : ℕ) → named number ≡ true → named other ≡ true → (other == number) ≡ false
      → (place number == place other) ≡ false) where
    -- what lines come to where one caller plays them, from sessions on that have the numbers of tasks: entries that the
    -- dictionary of one thread answers lead to the sessions behind the lines; those with the place of a session are
    -- what its own caller says; and each session is the one that its own lines end with
    pub record IsPlayed (sessions : SessionMap) (dialogs : ℕ → Dialog) (all : State) (tasks : Tasks)
        (lines : List Line) : Type 0 where
      pub history : List Entry
      pub behind : SessionMap
      pub leads : Leads (playing table sessions lines) (said_in_all history) [] (ends behind)
      pub answered : IsAnsweredAlone files all (said_in_all history)
      pub says : (number : ℕ) → named number ≡ true → dialog history (place number) ≡ dialogs number
      pub strangers : (other : ℕ) → ((number : ℕ) → named number ≡ true → (place number == other) ≡ false)
          → dialog history other ≡ []
      pub ends_so : (number : ℕ) → named number ≡ true → session_or_new behind number ≡ ended number
      pub numbers : behind ≡ by_number (session_or_new behind) (fold with_line tasks lines)

    abbrev Played : List Line → Type 0
    Played lines =
        (sessions : SessionMap) (given : Given) (dialogs : ℕ → Dialog) (states : ℕ → State) (all : State)
        (tasks : Tasks)
        → list_all (λ line. named (session_of line)) lines ≡ true → Ascend tasks
        → sessions ≡ by_number (session_or_new sessions) tasks
        → AreApart sessions given dialogs states all lines → IsPlayed sessions dialogs all tasks lines

    played-none : Played []
    played-none sessions given dialogs states all tasks names ascend is are = record {
      history = [];
      behind = sessions;
      leads = here (ends sessions);
      answered = tt;
      says = λ number is_named. sym (ends-led (session_or_new sessions number) (ended number)
          (are number is_named).leads).0;
      strangers = λ other none. refl;
      ends_so = λ number is_named. (ends-led (session_or_new sessions number) (ended number)
          (are number is_named).leads).1;
      numbers = is;
    }

    played-opened : (number typist book : ℕ) (lines : List Line) → Played lines
        → Played (Opening number typist book ∷ lines)
    played-opened number typist book lines behind sessions given dialogs states all tasks names ascend is are =
        let line = Opening number typist book in
        let session = new_session typist book in
        let rest = behind (with_session sessions number session) given dialogs states all (with_line tasks line)
        (and_parts (named number) (list_all (λ l. named (session_of l)) lines) names).1
        (ascend-put tasks number (lines_at tasks number ++ line ∷ []) ascend)
        (sessions-put tasks sessions line session ascend is)
        (opened-next number typist book lines sessions given dialogs states all are) in
        record {
          history = rest.history;
          behind = rest.behind;
          leads = rest.leads;
          answered = rest.answered;
          says = rest.says;
          strangers = rest.strangers;
          ends_so = rest.ends_so;
          numbers = rest.numbers;
        }

    module _ (number : ℕ) (ks : List Key) (lines : List Line) (sessions : SessionMap) (given : Given)
        (dialogs : ℕ → Dialog) (states : ℕ → State) (all : State) (tasks : Tasks)
        (names : list_all (λ line. named (session_of line)) (Keys number ks ∷ lines) ≡ true)
        (are : AreApart sessions given dialogs states all (Keys number ks ∷ lines)) where
      abbrev keys_parts : Halves (all_pressed table (session_or_new sessions number) ks)
          (λ a. own_typing table a (own_lines number lines)) (dialogs number) [] (ended number)
      keys_parts = parts number ks lines sessions given dialogs states all names are

      -- what the rest of the lines comes to
      abbrev Rest : Type 0
      Rest =
          IsPlayed (with_session sessions number keys_parts.middle) (with_one dialogs number keys_parts.rest)
          (after_calls all (calls_of keys_parts.first)) (with_line tasks (Keys number ks)) lines

      named_here : named number ≡ true
      named_here = (and_parts (named number) (list_all (λ l. named (session_of l)) lines) names).0

      -- the entries of the line, and those of the rest
      abbrev entries : Rest → List Entry
      entries rest = entries_by (place number) keys_parts.first ++ rest.history

      said_all : (rest : Rest) → said_in_all (entries rest) ≡ keys_parts.first ++ said_in_all rest.history
      said_all rest = said-entries (place number) keys_parts.first rest.history

      says_so : (rest : Rest) (other : ℕ) → named other ≡ true
          → dialog (entries rest) (place other) ≡ dialogs other
      says_so rest other also_named =
          dialog-entries (place number) (place other) keys_parts.first rest.history
          ∙ by (other == number) refl (rest.says other also_named)
        where
          by : (b : Bool) → (other == number) ≡ b
              → dialog rest.history (place other) ≡ cond b keys_parts.rest (dialogs other)
              → cond (place number == place other) keys_parts.first [] ++ dialog rest.history (place other)
              ≡ dialogs other
          by true is says =
              let same : other ≡ number = eqb-true other number is in
              ap (λ b. cond b keys_parts.first [] ++ dialog rest.history (place other))
              (eq-eqb (place number) (place other) (ap place (sym same)))
              ∙ ap (λ d. keys_parts.first ++ d) says ∙ sym keys_parts.is ∙ ap dialogs (sym same)
          by false is says =
              ap (λ b. cond b keys_parts.first [] ++ dialog rest.history (place other))
              (places number other named_here also_named is)
              ∙ says

      played-keys : Rest → IsPlayed sessions dialogs all tasks (Keys number ks ∷ lines)
      played-keys rest = record {
        history = entries rest;
        behind = rest.behind;
        leads =
            subst (λ (d : Dialog). Leads (playing table sessions (Keys number ks ∷ lines)) d [] (ends rest.behind))
            (sym (said_all rest))
            (leads-on (led-followed keys_parts.middle
            (λ session. playing table (with_session sessions number session) lines)
            (led number ks lines sessions given dialogs states all names are)) rest.leads);
        answered =
            subst (IsAnsweredAlone files all) (sym (said_all rest))
            (alone-joined files all keys_parts.first (said_in_all rest.history)
            (both number ks lines sessions given dialogs states all names are).0 rest.answered);
        says = says_so rest;
        strangers = λ other none.
            dialog-entries (place number) other keys_parts.first rest.history
            ∙ ap (λ b. cond b keys_parts.first [] ++ dialog rest.history other) (none number named_here)
            ∙ rest.strangers other none;
        ends_so = rest.ends_so;
        numbers = rest.numbers;
      }

    -- any lines
    pub played-apart : (lines : List Line) → Played lines
    played-apart [] = played-none
    played-apart (Keys number ks ∷ lines) =
        λ sessions given dialogs states all tasks names ascend is are.
        let middle = (parts number ks lines sessions given dialogs states all names are).middle in
        let first = (parts number ks lines sessions given dialogs states all names are).first in
        let left = (parts number ks lines sessions given dialogs states all names are).rest in
        played-keys number ks lines sessions given dialogs states all tasks names are
        (played-apart lines (with_session sessions number middle) (with_given given number (answers_of left))
        (with_one dialogs number left) (with_one states number (after_calls (states number) (calls_of first)))
        (after_calls all (calls_of first)) (with_line tasks (Keys number ks))
        (and_parts (named number) (list_all (λ l. named (session_of l)) lines) names).1
        (ascend-put tasks number (lines_at tasks number ++ Keys number ks ∷ []) ascend)
        (sessions-put tasks sessions (Keys number ks) middle ascend is)
        (next number ks lines sessions given dialogs states all names are))
    played-apart (Opening number typist book ∷ lines) = played-opened number typist book lines (played-apart lines)
