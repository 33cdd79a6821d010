-- What the pages of workers come to in the order of the script.
use Rattle.std.proofs.Common.{◌≡◌, ◌∙◌, ap, sym, subst, refl, arith, ℕ, ◌==◌, Bool, true, false, unwrap_or}
use Rattle.std.proofs.Common.{Option, None, Some, List, [], ◌∷◌, ◌++◌, append_assoc}
use Rattle.std.specs.BTreeMap.{is_at}
use Rattle.std.specs.List.{fold}
use Rattle.std.specs.Map.{lookup}
use Rattle.std.specs.Ordering.{nat_cmp}
use Rattle.romaji_rules.specs.declared.rule.Rule.{Rule}
use Rattle.skk_calls.specs.declared.answer.Answer.{Answer}
use Rattle.skk_calls.specs.Interactions.{Interaction, ends, asks, prints, followed_by, end_of}
use Rattle.skk_text.specs.declared.key.Key.{Key}
use Rattle.key_scripts.specs.Script.{session_of, own_lines}
use Rattle.key_scripts.specs.declared.line.Line.{Line}
use Rattle.key_scripts.specs.declared.line.Line.TheVariants.{Keys, Opening}
use Rattle.session_machine.specs.Pressed.{all_pressed}
use Rattle.session_machine.specs.Session.{Session, new_session}
use Rattle.script_typing.specs.MapLaws.{there-put, there-others, there-set, there-unset, Ascend, ascend-put, by_number}
use Rattle.script_typing.specs.MapLaws.{put-by_number}
use Rattle.script_typing.specs.Printing.{output_line}
use Rattle.script_typing.specs.Sessions.{SessionMap, session_or_new, with_session}
use Rattle.script_typing.specs.Typed.{closing_lines}
use Rattle.script_typing.specs.Woven.{Tasks, lines_at, with_line, own_typing, Given, with_given, taken, woven}
use Rattle.script_typing.specs.Woven.{numbers_printed}
use Rattle.script_typing.specs.Pages.{PageList, PageMap, first_page, behind_first, pages_at, without_first, woven_pages}
use Rattle.script_typing.specs.Pages.{text_of_pages}
use Rattle.script_typing.specs.Workers.{own_pages}

-- where there is a first of the pages of a session, there are pages of it
some-there : (pages : Option PageList) (page : List ℕ) (more : PageList) → unwrap_or pages [] ≡ page ∷ more
    → pages ≡ Some (page ∷ more)
some-there None page more there = absurd (cc there)
some-there (Some found) page more there = ap Some there

-- the end of what follows behind an interaction
pub end-behind : {S T : Type 0} (interaction : Interaction S) (behind : S → Interaction T) (answers : List Answer)
    → end_of (followed_by interaction behind) answers
    ≡ elim (taken interaction answers) [ None ↦ None | Some (value, rest) ↦ end_of (behind value) rest ]
end-behind (ends value) behind answers = refl
end-behind (asks call next) behind [] = refl
end-behind (asks call next) behind (answer ∷ answers) = end-behind (next answer) behind answers
end-behind (prints text rest) behind answers = end-behind rest behind answers

-- what is known of the session of a number in front of lines: its pages are the first of those that its own lines
-- print, and where all is whole they are all, and its lines end with this session
pub record IsAhead (table : List Rule) (whole : Bool) (number : ℕ) (session end : Session) (own : List Line)
    (answers : List Answer) (pages : PageList) : Type 0 where
  pub rest : PageList
  pub printed : own_pages table number session own answers ≡ pages ++ rest
  pub all : whole ≡ true → rest ≡ []
  pub ended : whole ≡ true → end_of (own_typing table session own) answers ≡ Some end

-- what is known of what is woven: the pages stand in front, and where all is whole the closing lines behind them
pub record IsWoven (table : List Rule) (whole : Bool) (sessions : SessionMap) (given : Given) (lines : List Line)
    (pages : PageMap) (ended : SessionMap) : Type 0 where
  pub rest : List ℕ
  pub is : woven table sessions given lines ≡ text_of_pages (woven_pages (numbers_printed lines) pages) ++ rest
  pub closed : whole ≡ true → rest ≡ closing_lines ended

-- an own line is the first
pub own-first : (line : Line) (lines : List Line)
    → own_lines (session_of line) (line ∷ lines) ≡ line ∷ own_lines (session_of line) lines
own-first line lines = grind arith

-- another's is not there
pub own-other : (line : Line) (lines : List Line) (number : ℕ) → (number == session_of line) ≡ false
    → own_lines number (line ∷ lines) ≡ own_lines number lines
own-other line lines number differ = grind arith

-- a session that was put into its place
pub session-put : (sessions : SessionMap) (number : ℕ) (session : Session)
    → session_or_new (with_session sessions number session) number ≡ session
session-put sessions number session =
    ap (λ s. unwrap_or s (new_session number number)) (there-put sessions number session)

-- the others stay
pub session-others : (sessions : SessionMap) (number : ℕ) (session : Session) (other : ℕ) → (other == number) ≡ false
    → session_or_new (with_session sessions number session) other ≡ session_or_new sessions other
session-others sessions number session other differ =
    ap (λ s. unwrap_or s (new_session other other)) (there-others sessions number session other differ)

-- sessions by number with one put into its place
pub sessions-put : (tasks : Tasks) (sessions : SessionMap) (line : Line) (session : Session) → Ascend tasks
    → sessions ≡ by_number (session_or_new sessions) tasks
    → with_session sessions (session_of line) session
    ≡ by_number (session_or_new (with_session sessions (session_of line) session)) (with_line tasks line)
sessions-put tasks sessions line session ascend is =
    let number = session_of line in
    let put = with_session sessions number session in
    ap (λ m. with_session m number session) is
    ∙ ap (λ s. with_session (by_number (session_or_new sessions) tasks) number s)
    (sym (session-put sessions number session))
    ∙ put-by_number (session_or_new sessions) (session_or_new put) number
    (session-others sessions number session) tasks (lines_at tasks number ++ line ∷ []) ascend

module _ (table : List Rule) (whole : Bool) where
  -- what is known of each session
  abbrev pub AreAhead : (ℕ → Session) → SessionMap → Given → List Line → PageMap → Type 0
  AreAhead ended sessions given lines pages =
      (number : ℕ) → IsAhead table whole number (session_or_new sessions number) (ended number)
      (own_lines number lines) (given number) (pages_at pages number)

  module _ (ended : ℕ → Session) where
    -- an opening line: its session is what its own lines open
    ahead-opened : (number typist book : ℕ) (lines : List Line) (sessions : SessionMap) (given : Given)
        (pages : PageMap) → AreAhead ended sessions given (Opening number typist book ∷ lines) pages
        → AreAhead ended (with_session sessions number (new_session typist book)) given lines pages
    ahead-opened number typist book lines sessions given pages ahead other =
        grind (
          arith,
          session-put sessions number (new_session typist book),
          session-others sessions number (new_session typist book) other,
          own-other (Opening number typist book) lines other,
          ahead other,
          opened,
        )
      where
        opened : IsAhead table whole number (new_session typist book) (ended number) (own_lines number lines)
            (given number) (pages_at pages number)
        opened =
            let known : IsAhead table whole number (session_or_new sessions number) (ended number)
            (Opening number typist book ∷ own_lines number lines) (given number) (pages_at pages number) =
            rw (own-first (Opening number typist book) lines) at (ahead number) in
            record { rest = known.rest; printed = known.printed; all = known.all; ended = known.ended }

    -- a line of keys that were taken, whose page is the next of its session
    module _ (number : ℕ) (ks : List Key) (lines : List Line) (sessions : SessionMap) (given : Given)
        (pages : PageMap) (session : Session) (left : List Answer) (page : List ℕ) (more : PageList)
        (taking : taken (all_pressed table (session_or_new sessions number) ks) (given number) ≡ Some (session, left))
        (there : pages_at pages number ≡ page ∷ more)
        (ahead : AreAhead ended sessions given (Keys number ks ∷ lines) pages) where
      abbrev keys_line : Line
      keys_line = Keys number ks

      -- what was known of its session
      known : IsAhead table whole number (session_or_new sessions number) (ended number)
          (keys_line ∷ own_lines number lines) (given number) (page ∷ more)
      known =
          subst (λ (ps : PageList). IsAhead table whole number (session_or_new sessions number) (ended number)
          (keys_line ∷ own_lines number lines) (given number) ps) there
          (subst (λ (ls : List Line). IsAhead table whole number (session_or_new sessions number) (ended number) ls
          (given number) (pages_at pages number)) (own-first keys_line lines) (ahead number))

      -- its pages
      own-printed : output_line number session ∷ own_pages table number session (own_lines number lines) left
          ≡ (page ∷ more) ++ known.rest
      own-printed =
          ap (λ t. elim t [
            | None ↦ []
            | Some (s, rest) ↦
                output_line number s ∷ own_pages table number s (own_lines number lines) rest
          ]) (sym taking)
          ∙ known.printed

      -- so the page is the line's
      pub own-page : page ≡ output_line number session
      own-page = cc (own-printed)

      -- and what is known of it behind the line
      own-behind : IsAhead table whole number session (ended number) (own_lines number lines) left more
      own-behind = record {
        rest = known.rest;
        printed = cc (own-printed);
        all = known.all;
        ended = λ all.
            ap (λ t. elim t [
              | None ↦ None
              | Some (s, rest) ↦
                  end_of (own_typing table s (own_lines number lines)) rest
            ]) (sym taking)
            ∙ sym (end-behind (all_pressed table (session_or_new sessions number) ks)
            (λ s. own_typing table s (own_lines number lines)) (given number))
            ∙ known.ended all;
      }

      -- so it is with each session
      pub ahead-typed : AreAhead ended (with_session sessions number session) (with_given given number left) lines
          (without_first pages number)
      ahead-typed other =
          grind (
            arith,
            session-put sessions number session,
            session-others sessions number session other,
            own-other keys_line lines other,
            there-unset pages number (behind_first (pages_at pages number)) other,
            behind,
            own-behind,
            ahead other,
          )
        where
          behind : pages_at (without_first pages number) number ≡ more
          behind =
              ap (λ ps. unwrap_or ps [])
              (there-set pages number (page ∷ more) (behind_first (pages_at pages number))
              (some-there (lookup (is_at (nat_cmp number)) pages) page more there))
              ∙ ap behind_first there

-- what is made of numbers by functions that agree is the same
by_number-same : {A B : Type 0} (f g : ℕ → B) → ((number : ℕ) → f number ≡ g number) → (entries : List (ℕ × A))
    → by_number f entries ≡ by_number g entries
by_number-same f g same [] = refl
by_number-same f g same (entry ∷ entries) =
    grind (arith, same entry.0, by_number-same f g same entries)

-- where no line is left and all is whole, a session is the one that its lines end with
none-left : (session end : Session) (answers : List Answer) → end_of (ends session) answers ≡ Some end → session ≡ end
none-left session end [] ended = cc (ended)
none-left session end (answer ∷ answers) ended = absurd (cc (ended))

-- no page comes of no pages
no_pages : (order : List ℕ) (number : ℕ) (pages : PageMap) → first_page (pages_at pages number) ≡ None
    → woven_pages (number ∷ order) pages ≡ []
no_pages order number pages none =
    ap (λ p. elim p [ None ↦ [] | Some page ↦ page ∷ woven_pages order (without_first pages number) ]) none

-- the first of pages is next
next_page : (order : List ℕ) (number : ℕ) (pages : PageMap) (page : List ℕ) (more : PageList)
    → pages_at pages number ≡ page ∷ more
    → woven_pages (number ∷ order) pages ≡ page ∷ woven_pages order (without_first pages number)
next_page order number pages page more there =
    ap (λ p. elim p [ None ↦ [] | Some first ↦ first ∷ woven_pages order (without_first pages number) ])
    (ap first_page there)

module _ (table : List Rule) (whole : Bool) (ended : ℕ → Session) where
  -- what is woven of lines, by what is known of each session in front of them
  abbrev Behind : List Line → Type 0
  Behind lines =
      (tasks : Tasks) (sessions : SessionMap) (given : Given) (pages : PageMap) → Ascend tasks
      → sessions ≡ by_number (session_or_new sessions) tasks
      → AreAhead table whole ended sessions given lines pages
      → IsWoven table whole sessions given lines pages (by_number ended (fold with_line tasks lines))

  -- of no line
  woven-none : Behind []
  woven-none tasks sessions given pages ascend is ahead = record {
    rest = closing_lines sessions;
    is = refl;
    closed = λ all.
        ap closing_lines (is ∙ by_number-same (session_or_new sessions) ended
        (λ number. none-left (session_or_new sessions number) (ended number) (given number)
        ((ahead number).ended all)) tasks);
  }

  -- of an opening line in front
  woven-opened : (number typist book : ℕ) (lines : List Line) → Behind lines
      → Behind (Opening number typist book ∷ lines)
  woven-opened number typist book lines behind tasks sessions given pages ascend is ahead =
      let line = Opening number typist book in
      let session = new_session typist book in
      let rest = behind (with_line tasks line) (with_session sessions number session) given pages
      (ascend-put tasks number (lines_at tasks number ++ line ∷ []) ascend)
      (sessions-put tasks sessions line session ascend is)
      (ahead-opened table whole ended number typist book lines sessions given pages ahead) in
      record { rest = rest.rest; is = rest.is; closed = rest.closed }

  module _ (number : ℕ) (ks : List Key) (lines : List Line) (behind : Behind lines)
      (tasks : Tasks) (sessions : SessionMap) (given : Given) (pages : PageMap) (ascend : Ascend tasks)
      (is : sessions ≡ by_number (session_or_new sessions) tasks)
      (ahead : AreAhead table whole ended sessions given (Keys number ks ∷ lines) pages) where
    abbrev first_line : Line
    first_line = Keys number ks

    -- what is known of its session
    told : IsAhead table whole number (session_or_new sessions number) (ended number)
        (first_line ∷ own_lines number lines) (given number) (pages_at pages number)
    told =
        subst (λ (ls : List Line). IsAhead table whole number (session_or_new sessions number) (ended number) ls
        (given number) (pages_at pages number)) (own-first first_line lines) (ahead number)

    -- what is woven by what its keys take
    abbrev woven_by : Option (Session × List Answer) → List ℕ
    woven_by t = elim t [
      | None ↦ []
      | Some (session, left) ↦
          output_line number session
          ++ woven table (with_session sessions number session) (with_given given number left) lines
    ]

    -- and its pages
    abbrev pages_by : Option (Session × List Answer) → PageList
    pages_by t = elim t [
      | None ↦ []
      | Some (session, left) ↦
          output_line number session ∷ own_pages table number session (own_lines number lines) left
    ]

    -- and its end
    abbrev end_by : Option (Session × List Answer) → Option Session
    end_by t = elim t [
      | None ↦ None
      | Some (session, left) ↦ end_of (own_typing table session (own_lines number lines)) left
    ]

    ended_by : whole ≡ true → end_by (taken (all_pressed table (session_or_new sessions number) ks) (given number))
        ≡ Some (ended number)
    ended_by all =
        sym (end-behind (all_pressed table (session_or_new sessions number) ks)
        (λ s. own_typing table s (own_lines number lines)) (given number)) ∙ told.ended all

    -- where no page of its session is left, nothing is woven yet that was printed
    woven-stopped : (t : Option (Session × List Answer)) → pages_by t ≡ told.rest
        → first_page (pages_at pages number) ≡ None
        → (whole ≡ true → end_by t ≡ Some (ended number))
        → woven table sessions given (first_line ∷ lines) ≡ woven_by t
        → IsWoven table whole sessions given (first_line ∷ lines) pages
        (by_number ended (fold with_line (with_line tasks first_line) lines))
    woven-stopped t printed none end_is woven_is = record {
      rest = woven_by t;
      is = woven_is ∙ ap (λ ps. text_of_pages ps ++ woven_by t)
          (sym (no_pages (numbers_printed lines) number pages none));
      closed = λ all. absurd (by t (printed ∙ told.all all) (end_is all));
    }
      where
        by : (o : Option (Session × List Answer)) → pages_by o ≡ [] → end_by o ≡ Some (ended number) → ⊥
        by None empty end = cc (end)
        by (Some taking) empty end = cc (empty)

    -- where its keys are taken and its page is there
    woven-next : (session : Session) (left : List Answer) (page : List ℕ) (more : PageList)
        → taken (all_pressed table (session_or_new sessions number) ks) (given number) ≡ Some (session, left)
        → pages_at pages number ≡ page ∷ more
        → IsWoven table whole sessions given (first_line ∷ lines) pages
        (by_number ended (fold with_line (with_line tasks first_line) lines))
    woven-next session left page more taking there =
        let rest = behind (with_line tasks first_line) (with_session sessions number session)
        (with_given given number left) (without_first pages number)
        (ascend-put tasks number (lines_at tasks number ++ first_line ∷ []) ascend)
        (sessions-put tasks sessions first_line session ascend is)
        (ahead-typed table whole ended number ks lines sessions given pages session left page more taking there ahead)
        in
        let text = text_of_pages (woven_pages (numbers_printed lines) (without_first pages number)) in
        record {
          rest = rest.rest;
          is =
              ap woven_by taking ∙ ap (λ t. output_line number session ++ t) rest.is
              ∙ sym (append_assoc (output_line number session) text rest.rest)
              ∙ ap (λ p. (p ++ text) ++ rest.rest)
              (sym (own-page table whole ended number ks lines sessions given pages session left page more taking there
              ahead))
              ∙ ap (λ ps. text_of_pages ps ++ rest.rest)
              (sym (next_page (numbers_printed lines) number pages page more there));
          closed = rest.closed;
        }

    -- what its keys take
    abbrev keys_taken : Option (Session × List Answer)
    keys_taken = taken (all_pressed table (session_or_new sessions number) ks) (given number)

    -- a line of keys in front
    woven-keys : IsWoven table whole sessions given (first_line ∷ lines) pages
        (by_number ended (fold with_line (with_line tasks first_line) lines))
    woven-keys = by (pages_at pages number) refl
      where
        empty : pages_at pages number ≡ [] → pages_by keys_taken ≡ told.rest
        empty none = told.printed ∙ ap (λ ps. ps ++ told.rest) none

        by : (ps : PageList) → pages_at pages number ≡ ps
            → IsWoven table whole sessions given (first_line ∷ lines) pages
            (by_number ended (fold with_line (with_line tasks first_line) lines))
        by [] none = woven-stopped keys_taken (empty none) (ap first_page none) ended_by refl
        by (page ∷ more) there = taking keys_taken refl
          where
            taking : (o : Option (Session × List Answer))
                → taken (all_pressed table (session_or_new sessions number) ks) (given number) ≡ o
                → IsWoven table whole sessions given (first_line ∷ lines) pages
                (by_number ended (fold with_line (with_line tasks first_line) lines))
            taking None none =
                absurd (cc (sym (ap pages_by none) ∙ told.printed ∙ ap (λ ps. ps ++ told.rest) there))
            taking (Some (session, left)) taken_is = woven-next session left page more taken_is there

  -- what is woven of any lines
  pub woven-ahead : (lines : List Line) → Behind lines
  woven-ahead [] = woven-none
  woven-ahead (Keys number ks ∷ lines) = woven-keys number ks lines (woven-ahead lines)
  woven-ahead (Opening number typist book ∷ lines) = woven-opened number typist book lines (woven-ahead lines)
