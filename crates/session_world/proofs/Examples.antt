-- Worlds of sessions, as the definitions compute them.
use Rattle.std.proofs.Common.{◌≡◌, refl, ap, sym, inl, inr, ℕ, true, false, map, Some, None, Ok, Err, List, [], ◌∷◌}
use Rattle.std.proofs.Common.{◌++◌, codes, arith}
use lib.Utf8.{encode}
use Rattle.skk_text.specs.declared.key.Key.TheVariants.{Char}
use Rattle.skk_text.specs.declared.mode.Mode.TheVariants.{Hira}
use Rattle.skk_text.specs.declared.notice.Notice.TheVariants as notices
use Rattle.romaji_rules.specs.declared.rule.Rule.{Rule}
use Rattle.skk_calls.specs.declared.answer.Answer.{Answer}
use Rattle.skk_calls.specs.declared.answer.Answer.TheVariants.{Done, Refused}
use Rattle.skk_calls.specs.declared.answer.Refusal.TheVariants.{Memory, Disk, JournalFull}
use Rattle.skk_calls.specs.declared.answer.Reply.TheVariants as replies
use Rattle.skk_calls.specs.declared.call.Call.{Call}
use Rattle.skk_calls.specs.declared.call.Call.TheVariants.{Lookup, Learn, Purge}
use Rattle.skk_calls.specs.declared.entry.Entry.{Entry}
use Rattle.skk_calls.specs.declared.part.Part.TheVariants.{Nasi}
use Rattle.skk_calls.specs.Dictionary.{after}
use Rattle.skk_calls.specs.Interactions.{Dialog}
use Rattle.skk_calls.specs.Rows.{Cand, Row, RowKey}
use Rattle.skk_calls.specs.States.{State, empty_state, count_of}
use Rattle.session_machine.specs.declared.frame.FrameState.{FrameState}
use Rattle.session_machine.specs.declared.frame.FrameState.TheVariants as states
use Rattle.session_machine.specs.declared.session_notice.SessionNotice.{SessionNotice}
use Rattle.session_machine.specs.declared.session_notice.SessionNotice.TheVariants as told
use Rattle.session_machine.specs.Session.{Session, new_session}
use Rattle.session_world.specs.Doubts.{doubt_after, doubt_behind}
use Rattle.session_world.specs.Keeping.{HasBook, IsSeat, asked_at, opened_with, session_limit}
use Rattle.session_world.specs.Seats.{answered, asked_in, may_be_answered, new_seat, renewed, with_answers, with_key}
use Rattle.session_world.specs.Stands.{HasPlayed, IsUnderWay, Played, Stands, opening_of}
use Rattle.session_world.specs.Steps.{KeepsDoubt, StepsTo, noted}
use Rattle.session_world.specs.Worlds.{World, all_stepped, entered, last_of, new_world, refusal_of, reopened}
use Rattle.session_world.specs.Worlds.{stepped}
use Rattle.session_world.specs.declared.event.Event.TheVariants as events
use Rattle.session_world.specs.declared.seat.Seat.{Seat}
use Rattle.session_world.specs.declared.world.WorldFault.TheVariants.{NotNow, Memory as Out}

-- a table of one input, あ
abbrev rules : List Rule
rules = record { input = codes "a"; next = []; out = record { hira = codes "あ"; kata = codes "ア" } } ∷ []

-- a session of typist 3, who learns in the shared book, with a text, a state and a notice
abbrev at : List ℕ → FrameState → SessionNotice → Session
at text state notice =
    record {
      typist = 3;
      book = 0;
      frame = record { text = text; mode = Hira; state = state; last_choice = None };
      outer = [];
      notice = notice;
    }

abbrev none : SessionNotice
none = told.Step notices.Empty

-- an open reading, and that of あ
abbrev reading : List ℕ → FrameState
reading text =
    states.Reading (record { text = text; is_abbrev = false; okuri = None; pending = []; completions = None })

abbrev unfinished : FrameState
unfinished = reading (codes "あ")

-- candidates of あ1, of which the first is shown: 亜, found as it is
abbrev picking : FrameState
picking =
    states.Picking (record {
      reading = record { text = codes "あ1"; is_abbrev = false; okuri = None; pending = []; completions = None };
      picking = record {
        shown = record {
          key = record { part = Nasi; reading = codes "あ1" };
          cand = record { word = codes "亜"; note = [] };
          text = codes "亜";
        } ∷ [];
        place = 0;
        question = false;
      };
    })

-- the key of あ, and its look-up
abbrev key : RowKey
key = record { part = Nasi; reading = codes "あ" }

abbrev look_up : Call
look_up = Lookup 3 key None

-- the look-ups of あ1, as it is and by its number key
abbrev look_up_plain : Call
look_up_plain = Lookup 3 (record { part = Nasi; reading = codes "あ1" }) None

abbrev look_up_numbered : Call
look_up_numbered = Lookup 3 (record { part = Nasi; reading = codes "あ#" }) None

-- two calls that change something, and one that changes nothing where nothing was learnt
abbrev learn : List ℕ → Call
learn word = Learn 0 key None (record { word = word; note = [] })

abbrev purge : Call
purge = Purge 0 key (codes "亜")

-- a word without a note
abbrev plain : List ℕ → Cand
plain word = record { word = word; note = [] }

-- what a look-up is answered that found nothing, and one that found 亜
abbrev nothing : Answer
nothing = Done (replies.Found [])

abbrev something : Answer
something = Done (replies.Found (plain (codes "亜") ∷ []))

-- a row of the key with these words and a stamp, and a state with such a row alone, in the shared book
abbrev row : List (List ℕ) → ℕ → Row
row words stamp = record { key = key; cands = map plain words; blocks = []; hides = []; stamp = stamp }

abbrev learnt : List (List ℕ) → ℕ → State
learnt words count = record {
  books = record { number = 0; count = count; rows = row words count ∷ [] } ∷ [];
  lists = [];
}

-- a seat with the open reading, in which no key is under way, and in which a space is
abbrev idle : Seat
idle = record {
  typist = 3;
  book = 0;
  keys = Char 65 ∷ [];
  session = at [] unfinished none;
  under_way = None;
}

abbrev waiting : Seat
waiting = record idle { under_way = Some (record { key = Char 32; answers = [] }) }

-- the entry of a look-up of place 0 that was refused
abbrev entry : Entry
entry = record { number = 0; call = look_up; answer = Refused Memory }

abbrev world : World
world = record {
  rules = rules;
  files = [];
  seats = idle ∷ waiting ∷ [];
  opened = empty_state;
  history = entry ∷ [];
  state = empty_state;
}

-- that world over a file with 唖, with 亜 in the state that its history was opened with, and 阿 too in its state
abbrev lived : World
lived = record world {
  files = (row (codes "唖" ∷ []) 0 ∷ []) ∷ [];
  opened = learnt (codes "亜" ∷ []) 1;
  state = learnt (codes "阿" ∷ codes "亜" ∷ []) 2;
}

-- the same seat, in which that space was refused as out of memory
abbrev refused : Seat
refused = record idle { keys = Char 65 ∷ Char 32 ∷ []; session = at [] unfinished (told.Refused Memory) }

-- and in which a 1 was typed then, and a space is under way whose first look-up found nothing
abbrev counting : Seat
counting = record {
  typist = 3;
  book = 0;
  keys = Char 65 ∷ Char 32 ∷ Char 49 ∷ [];
  session = at [] (reading (codes "あ1")) none;
  under_way = Some (record { key = Char 32; answers = nothing ∷ [] });
}

-- Seats

-- a key that asks nothing ends where it is started, and stands behind the keys that ended
ends_at_once : with_answers rules (new_seat 3 0) (Char 97) []
    ≡ record (new_seat 3 0) { keys = Char 97 ∷ []; session = at (codes "あ") (states.Plain []) none }
unfolding encode
ends_at_once = refl

-- a key that asks is under way, and the session stays as it was
is_under_way : with_answers rules idle (Char 32) [] ≡ waiting
unfolding encode
is_under_way = refl

-- and so is one that got an answer and asks more
is_still_under_way : with_answers rules (record counting { under_way = None }) (Char 32) (nothing ∷ []) ≡ counting
unfolding encode
is_still_under_way = refl

-- the key under way asks the look-up of its reading, and behind an answer what comes next; where none is under way
-- nothing is asked
asks_look_up : map (asked_in rules) (waiting ∷ counting ∷ idle ∷ [])
    ≡ Some look_up ∷ Some look_up_numbered ∷ None ∷ []
unfolding encode
asks_look_up = refl

-- a place asks what its seat asks, and nothing where there is no seat
places_ask : map (asked_at world) (0 ∷ 1 ∷ 2 ∷ []) ≡ None ∷ Some look_up ∷ None ∷ []
unfolding encode
places_ask = refl

-- an answer ends the key that asks no more, which the session tells of; where no key is under way the seat stays
takes_answer : map (λ seat. answered rules seat (Refused Memory)) (waiting ∷ idle ∷ [])
    ≡ refused ∷ idle ∷ []
unfolding encode
takes_answer = refl

-- answers stand in the order in which they came: the look-up of あ1 as it is found 亜, and that by its number key nothing
takes_second : answered rules (with_key counting (Char 32) (something ∷ [])) nothing ≡ record counting {
  keys = Char 65 ∷ Char 32 ∷ Char 49 ∷ Char 32 ∷ [];
  session = at [] picking none;
  under_way = None;
}
unfolding encode
takes_second = refl

-- a look-up may get a refusal for memory, and no reply to a purge
may_get : map (λ answer. may_be_answered rules (record idle {
  under_way = Some (record { key = Char 32; answers = answer ∷ [] });
})) (Refused Memory ∷ Done replies.Purged ∷ []) ≡ true ∷ false ∷ []
unfolding encode
may_get = refl

-- a seat that is new again has its typist and book, and nothing else of what it had
new_again : renewed (record waiting { typist = 5; book = 5 }) ≡ new_seat 5 5
new_again = refl

-- a seat's book is the shared one or its typist's, and no other
its_book : HasBook (new_seat 3 0) × HasBook (new_seat 3 3) × (¬ HasBook (new_seat 3 1))
its_book = (
  inl refl,
  inr refl,
  λ has. elim has [
    | inl shared ↦ cc
    | inr own ↦ cc
  ],
)

-- a seat may be without a key under way, and with one whose look-up got no answer, and not with one that was purged
may_be : IsSeat rules idle × IsSeat rules waiting
    × (¬ IsSeat rules (with_key idle (Char 32) (Done replies.Purged ∷ [])))
    × (¬ IsSeat rules (new_seat 3 1))
unfolding encode
may_be = ((inl refl, refl), (inl refl, refl), λ is. let may = is.1 in cc, λ is. its_book.2 is.0)

-- What seats played

-- a key under way has asked what it got answers to, and asks its next call
has_asked : IsUnderWay rules waiting.session waiting.under_way []
    × IsUnderWay rules counting.session counting.under_way ((look_up_plain, nothing) ∷ [])
unfolding encode
has_asked = ((refl, refl, look_up, refl), (refl, refl, look_up_numbered, refl))

-- nothing was asked where no key is under way; the answers are those that the key got, and the calls those that it asks
has_not_asked : (¬ IsUnderWay rules idle.session idle.under_way ((look_up, nothing) ∷ []))
    × (¬ IsUnderWay rules counting.session counting.under_way ((look_up_plain, something) ∷ []))
    × (¬ IsUnderWay rules counting.session counting.under_way ((purge, nothing) ∷ []))
unfolding encode
has_not_asked = (
  λ is. cc,
  λ is. let answers : something ∷ [] ≡ nothing ∷ [] = is.0 in cc,
  λ is. let calls : look_up_plain ∷ [] ≡ purge ∷ [] = is.1 in cc,
)

-- and a key that asks no more is not under way
not_under_way : ¬ IsUnderWay rules idle.session (with_key idle (Char 32) (Refused Memory ∷ [])).under_way
    ((look_up, Refused Memory) ∷ [])
unfolding encode
not_under_way is = let asks : None ≡ Some is.2 = is.3 in cc

-- keys that were played asked what they ask, and left the session that they leave
played : Played rules (new_session 3 0) refused.keys ((look_up, Refused Memory) ∷ []) refused.session
unfolding encode
played = (refl, refl)

-- they asked no other calls, left no other session, and ended
not_played : (¬ Played rules (new_session 3 0) refused.keys ((purge, Refused Memory) ∷ []) refused.session)
    × (¬ Played rules (new_session 3 0) refused.keys ((look_up, Refused Memory) ∷ []) idle.session)
    × (¬ Played rules (new_session 3 0) refused.keys [] refused.session)
unfolding encode
not_played = (
  λ is. let calls : look_up ∷ [] ≡ purge ∷ [] = is.0 in cc,
  λ is. let left : Some refused.session ≡ Some idle.session = is.1 in
      let same : refused.session ≡ idle.session = cc in
      let told : refused.session.notice ≡ none = ap (λ (s : Session). s.notice) same in cc,
  λ is. let left : None ≡ Some refused.session = is.1 in cc,
)

-- a seat has played what its ended keys asked, and behind it what its key under way has asked
has_played : HasPlayed rules counting ((look_up, Refused Memory) ∷ (look_up_plain, nothing) ∷ [])
unfolding encode
has_played = record {
  first = (look_up, Refused Memory) ∷ [];
  rest = (look_up_plain, nothing) ∷ [];
  parts = refl;
  played = (refl, refl);
  under_way = (refl, refl, look_up_numbered, refl);
}

-- and has played no less
has_not_played : ¬ HasPlayed rules refused []
unfolding encode
has_not_played has = by has.first has.rest has.parts has.played
  where
    by : (first rest : Dialog) → [] ≡ first ++ rest
        → ¬ Played rules (new_session 3 0) refused.keys first refused.session
    by [] rest parts is = let left = is.1 in cc
    by (pair ∷ first) rest parts is = cc

-- Doubts

-- a change that was accepted ends all doubt; a reply that tells of no change, and a refusal for another cause than the
-- disk, leave it; and a call that a disk failed is in doubt
doubts : map (doubt_behind (Some purge) look_up) (Done replies.Purged ∷ Done replies.Restored ∷ Done replies.Annotated
    ∷ Done replies.Unchanged ∷ Done (replies.Overtaken 2) ∷ Refused Memory ∷ Refused (JournalFull 1 2 3) ∷ Refused Disk
    ∷ [])
    ≡ None ∷ None ∷ None ∷ Some purge ∷ Some purge ∷ Some purge ∷ Some purge ∷ Some look_up ∷ []
doubts = refl

-- and so it is behind an entry
doubts_entries : map (doubt_after (Some purge)) (entry ∷ record { number = 0; call = look_up; answer = Refused Disk }
    ∷ [])
    ≡ Some purge ∷ Some look_up ∷ []
doubts_entries = refl

-- the last of some calls is told, and none of none
lasts : map last_of ([] ∷ (purge ∷ []) ∷ (purge ∷ look_up ∷ []) ∷ (purge ∷ look_up ∷ purge ∷ []) ∷ [])
    ≡ None ∷ Some purge ∷ Some look_up ∷ Some purge ∷ []
lasts = refl

-- Refusals

-- any call may be refused as out of memory
refused_memory : map (refusal_of empty_state Memory) (look_up ∷ learn (codes "亜") ∷ [])
    ≡ Some (Refused Memory) ∷ Some (Refused Memory) ∷ []
refused_memory = refl

-- a call that changes nothing may not be refused for the disk, and one that changes something may
refused_disk : map (refusal_of empty_state Disk) (look_up ∷ learn (codes "亜") ∷ [])
    ≡ None ∷ Some (Refused Disk) ∷ []
unfolding encode
refused_disk = refl

-- nor for a learned file that is full
refused_full : map (refusal_of empty_state (JournalFull 1 2 3)) (look_up ∷ learn (codes "亜") ∷ [])
    ≡ None ∷ Some (Refused (JournalFull 1 2 3)) ∷ []
unfolding encode
refused_full = refl

-- a purge may be while it would change something, and no more once it was made
refused_again : map (λ state. refusal_of state Disk purge) (empty_state ∷ after empty_state purge ∷ [])
    ≡ Some (Refused Disk) ∷ None ∷ []
unfolding encode
refused_again = refl

-- Worlds

-- a world has at most 64 sessions
limit : session_limit ≡ 64
limit = refl

-- a new world has a new session for each typist with a book, in order, an empty dictionary and no history
new : new_world ((3, 0) ∷ (5, 5) ∷ []) rules ([] ∷ []) ≡ record {
  rules = rules;
  files = [] ∷ [];
  seats = new_seat 3 0 ∷ new_seat 5 5 ∷ [];
  opened = empty_state;
  history = [];
  state = empty_state;
}
new = refl

-- what was learnt after a history was opened is no part of what it stands over
stands_over : (opened now : State) → opening_of (record lived { opened = opened; state = now })
    ≡ record {
      files = (row (codes "唖" ∷ []) 0 ∷ []) ∷ [];
      state = opened;
      end = 0;
      limit = 0;
      time = 0;
      faults = 0;
    }
stands_over opened now = refl

-- a world does not stand where its dictionary has what no entry tells of
learnt_of_nothing : ¬ Stands (record lived { seats = refused ∷ [] })
learnt_of_nothing stands =
    let state : learnt (codes "阿" ∷ codes "亜" ∷ []) 2 ≡ learnt (codes "亜" ∷ []) 1 = stands.state in
    let count : 2 ≡ 1 = ap (λ (s : State). count_of s 0) state in omega (arith, count)

-- nor where it lacks a change that an entry tells of
not_learnt : ¬ Stands (record world {
  seats = [];
  history =
      record {
        number = 0;
        call = learn (codes "亜");
        answer = Done (replies.Learned (record { book = 0; key = key; stamp = 1; before = None }));
      } ∷ [];
})
unfolding encode
not_learnt stands =
    let state : empty_state ≡ learnt (codes "亜" ∷ []) 1 = stands.state in
    let count : 0 ≡ 1 = ap (λ (s : State). count_of s 0) state in omega (arith, count)

-- nor where its history has an answer that is not legal
not_legal : ¬ Stands (record world {
  seats = record refused { session = at [] unfinished (told.Refused Disk) } ∷ [];
  history = record { number = 0; call = look_up; answer = Refused Disk } ∷ [];
})
not_legal stands =
    let legal = stands.legal [] (record { number = 0; call = look_up; answer = Refused Disk }) [] refl in cc

-- nor where a session has played the part of another place
not_its_part : ¬ Stands (record world { seats = refused ∷ refused ∷ [] })
unfolding encode
not_its_part stands = has_not_played (stands.seats 1 refused refl)

-- Steps

-- the two worlds differ
apart : ¬ (lived ≡ world)
apart same = let files = ap (λ (w : World). w.files) same in cc

-- a step ends with the next world, and where there is none hands back the world; memory may be out
steps_to : StepsTo (Some lived) world (Ok lived) × StepsTo None world (Err (NotNow world))
    × StepsTo (Some lived) world (Err Out) × StepsTo None world (Err Out)
steps_to = (refl, (refl, refl), tt, tt)

-- it ends with no other world, hands none back where there is a next one, and hands back no other
steps_not_to : (¬ StepsTo (Some lived) world (Ok world)) × (¬ StepsTo None world (Ok world))
    × (¬ StepsTo (Some lived) world (Err (NotNow world))) × (¬ StepsTo None world (Err (NotNow lived)))
steps_not_to = (
  λ is. let same : lived ≡ world = cc in apart same,
  λ is. cc,
  λ is. let next = is.0 in cc,
  λ is. apart is.1,
)

-- Events

-- no key is started where there is no seat
no_seat : stepped world (events.Key 2 (Char 97)) ≡ None
no_seat = refl

-- nor over one that is under way
over_another : stepped world (events.Key 1 (Char 97)) ≡ None
over_another = refl

-- a key that is started in a seat leaves the other seats, the history and the dictionary
starts : stepped world (events.Key 0 (Char 32)) ≡ Some (record world { seats = waiting ∷ waiting ∷ [] })
unfolding encode
starts = refl

-- nothing is served, and nothing refused, where no key is under way or no seat is
none_asked : map (stepped world)
    (events.Serve 0 ∷ events.Serve 2 ∷ events.Refuse 0 Memory ∷ events.Refuse 2 Memory ∷ [])
    ≡ None ∷ None ∷ None ∷ None ∷ []
none_asked = refl

-- a call that is refused is entered under the number of its place
refuses : stepped world (events.Refuse 1 Memory)
    ≡ Some (record world {
      seats = idle ∷ refused ∷ [];
      history = entry ∷ record { number = 1; call = look_up; answer = Refused Memory } ∷ [];
    })
unfolding encode
refuses = refl

-- so the dictionary stays, and the rest is as where an answer is noted
refuses_noted : stepped world (events.Refuse 1 Memory) ≡ Some (noted world 1 waiting look_up (Refused Memory))
unfolding encode
refuses_noted = refl

-- a call that is served gets what the dictionary replies, here that nothing is found
serves : stepped world (events.Serve 1) ≡ Some (entered world 1 waiting look_up nothing)
unfolding encode
serves = refl

-- and what was learnt till then, and what is in the system files
serves_all : stepped lived (events.Serve 1) ≡ Some (entered lived 1 waiting look_up
    (Done (replies.Found (plain (codes "阿") ∷ plain (codes "亜") ∷ plain (codes "唖") ∷ []))))
unfolding encode
serves_all = refl

-- a change that was served is in the dictionary, and one that was refused is not
changes_state : map (λ given. (entered lived 1 waiting (learn (codes "娃")) given).state)
    (Done (replies.Learned
    (record { book = 0; key = key; stamp = 3; before = Some (row (codes "阿" ∷ codes "亜" ∷ []) 2) }))
    ∷ Refused Disk ∷ [])
    ≡ learnt (codes "娃" ∷ codes "阿" ∷ codes "亜" ∷ []) 3 ∷ learnt (codes "阿" ∷ codes "亜" ∷ []) 2 ∷ []
unfolding encode
changes_state = refl

-- a look-up is not refused for the disk
not_for_disk : stepped world (events.Refuse 1 Disk) ≡ None
unfolding encode
not_for_disk = refl

-- a world that is opened anew has new sessions, the state that it was opened with, and no history
opened_anew : (state : State) → reopened world state
    ≡ record world { seats = new_seat 3 0 ∷ new_seat 3 0 ∷ []; opened = state; history = []; state = state }
opened_anew state = refl

-- a stop keeps the state of the dictionary, and where no change is in doubt none can be kept
stops : map (stepped lived) (events.Crash false ∷ events.Crash true ∷ [])
    ≡ Some (reopened lived (learnt (codes "阿" ∷ codes "亜" ∷ []) 2)) ∷ None ∷ []
stops = refl

-- a history in which a disk failed two changes, and a look-up was refused behind them
abbrev doubtful : World
doubtful = record lived {
  history =
      record { number = 0; call = learn (codes "唖"); answer = Refused Disk }
      ∷ record { number = 1; call = learn (codes "娃"); answer = Refused Disk }
      ∷ entry ∷ [];
}

-- that world with the last of them made
abbrev kept : State
kept = learnt (codes "娃" ∷ codes "阿" ∷ codes "亜" ∷ []) 3

-- a stop keeps the last change that is in doubt, where that is asked
keeps_last : stepped doubtful (events.Crash true) ≡ Some (reopened doubtful kept)
unfolding encode
keeps_last = refl

-- the change that is kept is the last in doubt, and where none is in doubt the world stays
kept_last : KeepsDoubt true doubtful (record doubtful { state = kept }) × KeepsDoubt false lived lived
unfolding encode
kept_last = (refl, (refl, refl))

-- none is kept where none is in doubt, one is where one is, and no other world comes where none is
kept_not : (¬ KeepsDoubt true lived lived) × (¬ KeepsDoubt false doubtful doubtful) × (¬ KeepsDoubt false lived world)
kept_not = (λ is. cc, λ is. let none = is.0 in cc, λ is. apart (sym is.1))

-- a world without events stays, and one that came at the wrong time ends all
runs : map (all_stepped world) ([] ∷ (events.Crash false ∷ []) ∷ (events.Crash true ∷ events.Crash false ∷ []) ∷ [])
    ≡ Some world ∷ Some (reopened world empty_state) ∷ None ∷ []
runs = refl

-- each event comes to the world that those before it left
takes_turns : all_stepped world (events.Key 0 (Char 32) ∷ events.Refuse 0 Memory ∷ [])
    ≡ Some (record world { seats = refused ∷ waiting ∷ []; history = entry ∷ entry ∷ [] })
unfolding encode
takes_turns = refl

-- what a trace was first shown is what a history was opened with
opened_first : (first second : State) → map opened_with ((first ∷ []) ∷ (first ∷ second ∷ []) ∷ [])
    ≡ first ∷ first ∷ []
opened_first first second = refl
