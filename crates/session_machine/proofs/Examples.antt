-- Sessions and keys, as the definitions compute them.
use Rattle.std.proofs.Common.{◌≡◌, refl, arith, ℕ, Bool, true, false, map, Option, Some, None, option_map, List, []}
use Rattle.std.proofs.Common.{◌∷◌, ◌++◌, codes, replicate}
use lib.Utf8.{encode}
use Rattle.skk_text.specs.declared.key.Key.{Key}
use Rattle.skk_text.specs.declared.key.Key.TheVariants.{Char, Cj, Cg, Bs, Ret, Undo}
use Rattle.skk_text.specs.declared.mode.Mode.{Mode}
use Rattle.skk_text.specs.declared.mode.Mode.TheVariants.{Hira, Kata, Ascii, Wide}
use Rattle.skk_text.specs.Text.{byte_len}
use Rattle.skk_text.specs.declared.notice.Notice.TheVariants as notices
use Rattle.romaji_rules.specs.declared.rule.Rule.{Rule}
use Rattle.skk_calls.specs.declared.answer.Answer.{Answer}
use Rattle.skk_calls.specs.declared.answer.Answer.TheVariants.{Done, Refused}
use Rattle.skk_calls.specs.declared.answer.Refusal.TheVariants as refusals
use Rattle.skk_calls.specs.declared.answer.Reply.TheVariants as replies
use Rattle.skk_calls.specs.declared.call.Call.TheVariants.{Lookup, Learn, Purge, Unlearn}
use Rattle.skk_calls.specs.declared.part.Part.TheVariants.{Nasi, Ari}
use Rattle.skk_calls.specs.Interactions.{ends, asked, end_of}
use Rattle.skk_calls.specs.Rows.{Cand, Learned, RowKey}
use Rattle.reading_state.specs.Puts.{Reading}
use Rattle.candidate_state.specs.Shown.{Shown}
use Rattle.session_machine.specs.Answered.{reply_notice, answer_notice, learnt_by, says_annotated, says_purged}
use Rattle.session_machine.specs.declared.frame.Choice.{Choice}
use Rattle.session_machine.specs.declared.frame.Conversion.{Conversion}
use Rattle.session_machine.specs.declared.frame.OuterFrame.{OuterFrame}
use Rattle.session_machine.specs.declared.frame.FrameState.{FrameState}
use Rattle.session_machine.specs.declared.frame.FrameState.TheVariants as states
use Rattle.session_machine.specs.declared.frame.Waiting.{Waiting}
use Rattle.session_machine.specs.declared.frame.Waiting.TheVariants as waits
use Rattle.session_machine.specs.declared.session_notice.SessionNotice.{SessionNotice}
use Rattle.session_machine.specs.declared.session_notice.SessionNotice.TheVariants as told
use Rattle.session_machine.specs.Pressed.{pressed, all_pressed, reading_piece, choice_piece, after_learning}
use Rattle.session_machine.specs.Registrations.{outside}
use Rattle.session_machine.specs.Session.{Session, TextFits, may_learn_in, new_frame, new_session, text_limit, text_of}
use Rattle.session_machine.specs.Session.{choice_within, choice_at, without_chars, has_room, texts_of}

-- a table of two inputs, あ and ん
abbrev pub rules : List Rule
rules =
    record { input = codes "a"; next = []; out = record { hira = codes "あ"; kata = codes "ア" } }
    ∷ record { input = codes "n"; next = []; out = record { hira = codes "ん"; kata = codes "ン" } }
    ∷ record { input = codes "nn"; next = []; out = record { hira = codes "ん"; kata = codes "ン" } } ∷ []

-- a session of typist 3, who learns in the shared book, with a text, a mode, a state and a notice
abbrev pub at : List ℕ → Mode → FrameState → SessionNotice → Session
at text mode state notice =
    record {
      typist = 3;
      book = 0;
      frame = record { text = text; mode = mode; state = state; last_choice = None };
      outer = [];
      notice = notice;
    }

abbrev pub none : SessionNotice
none = told.Step notices.Empty

abbrev pub plain : FrameState
plain = states.Plain []

-- an open reading, with what is pending
abbrev pub reading : List ℕ → List ℕ → Reading
reading text pending = record { text = text; is_abbrev = false; okuri = None; pending = pending; completions = None }

abbrev pub unfinished : List ℕ → FrameState
unfinished text = states.Reading (reading text [])

-- an abbreviation that is open
abbrev pub abbreviation : List ℕ → FrameState
abbreviation text = states.Reading (record (reading text []) { is_abbrev = true })

-- an open reading with an okurigana that was begun: its letter, and its kana
abbrev pub with_begun : List ℕ → ℕ → List ℕ → Reading
with_begun text letter kana = record (reading text []) { okuri = Some (record { letter = letter; text = kana }) }

abbrev pub cand : List ℕ → List ℕ → Cand
cand word note = record { word = word; note = note }

abbrev shown : List ℕ → Cand → Shown
shown key cand = record { key = record { part = Nasi; reading = key }; cand = cand; text = cand.word }

-- the candidates of あ, of which the one at a place is shown
abbrev found : List Cand
found = cand (codes "亜") [] ∷ cand (codes "阿") (codes "二") ∷ []

abbrev pub conversion : ℕ → Bool → Conversion
conversion place question = record {
  reading = reading (codes "あ") [];
  picking = record {
    shown = shown (codes "あ") (cand (codes "亜") []) ∷ shown (codes "あ") (cand (codes "阿") (codes "二")) ∷ [];
    place = place;
    question = question;
  };
}

abbrev picking : ℕ → FrameState
picking place = states.Picking (conversion place false)

-- what a key comes to where its calls get these answers
abbrev pub after : Session → Key → List Answer → Option Session
after session key answers = end_of (pressed rules session key) answers

-- a session in which a registration was opened for what waits
abbrev pub registering_in : Session → Waiting → Session
registering_in session waiting =
    record session { frame = new_frame; outer = session.outer ++ outside session.frame waiting ∷ [] }

abbrev found_two : List Answer
found_two = Done (replies.Found found) ∷ []

new : (new_session 3 3 ≡ record {
  typist = 3;
  book = 3;
  frame = record { text = []; mode = Hira; state = plain; last_choice = None };
  outer = [];
  notice = none;
})
new = refl

-- a session learns in the shared book or in its typist's
books : map (λ (l : ℕ × ℕ). may_learn_in l.0 l.1) ((3, 0) ∷ (3, 3) ∷ (3, 2) ∷ (3, 1) ∷ (0, 0) ∷ (0, 1) ∷ [])
    ≡ true ∷ true ∷ false ∷ false ∷ true ∷ false ∷ []
books = refl

limit : text_limit ≡ 1048576
limit = refl

-- a text has at most so many bytes, and room for a piece up to there
within_limit : (text : List ℕ) → byte_len text ≡ 1048576 → TextFits text
within_limit text full = omega (arith, full)

past_the_limit : (text : List ℕ) → byte_len text ≡ 1048577 → TextFits text → ⊥
past_the_limit text full fits = omega (arith, full, fits)

room_to_limit : (text : List ℕ) → byte_len text ≡ 1048573
    → map (λ piece. has_room (at text Hira plain none) piece)
    (codes "abc" ∷ codes "あ" ∷ codes "abcd" ∷ codes "あa" ∷ [] ∷ [])
    ≡ true ∷ true ∷ false ∷ false ∷ true ∷ []
unfolding encode
room_to_limit text full = rw full refl

-- frames that stand in one another, the innermost last, and the text of the outermost
abbrev outer_frame : List ℕ → OuterFrame
outer_frame text =
    record { text = text; mode = Kata; waiting = waits.Reading (reading (codes "あ") []); last_choice = None }

abbrev nested : Session
nested = record (at (codes "内") Hira plain none) { outer = outer_frame (codes "外") ∷ outer_frame (codes "中") ∷ [] }

outermost : text_of nested ≡ codes "外"
outermost = refl

in_order : texts_of nested ≡ codes "外" ∷ codes "中" ∷ codes "内" ∷ []
in_order = refl

-- in the plain state
typed : after (at (codes "x") Kata plain (told.Refused refusals.Memory)) (Char 97) []
    ≡ Some (at (codes "xア") Kata plain none)
unfolding encode
typed = refl

deleted : after (at (codes "xy") Hira plain none) Bs [] ≡ Some (at (codes "x") Hira plain none)
unfolding encode
deleted = refl

newline : after (at (codes "x") Hira (states.Plain (codes "n")) none) Ret []
    ≡ Some (at (codes "xん" ++ 10 ∷ []) Hira plain none)
unfolding encode
newline = refl

opened : after (at (codes "x") Hira (states.Plain (codes "n")) none) (Char 81) []
    ≡ Some (at (codes "xん") Hira (unfinished []) none)
unfolding encode
opened = refl

opened_with : after (at (codes "x") Kata (states.Plain (codes "n")) none) (Char 65) []
    ≡ Some (at (codes "xン") Kata (unfinished (codes "あ")) none)
unfolding encode
opened_with = refl

abbreviated : after (at (codes "x") Hira (states.Plain (codes "n")) none) (Char 47) []
    ≡ Some (at (codes "xん") Hira (abbreviation []) none)
unfolding encode
abbreviated = refl

cancelled : after (at (codes "x") Hira plain none) Cg [] ≡ Some (at (codes "x") Hira plain none)
unfolding encode
cancelled = refl

nothing_back : after (at (codes "x") Hira (states.Plain (codes "n")) none) Undo []
    ≡ Some (at (codes "x") Hira (states.Plain (codes "n")) (told.Step notices.NoUndo))
unfolding encode
nothing_back = refl

-- in the reading state
put : after (at (codes "x") Kata (unfinished (codes "あ")) none) (Char 97) []
    ≡ Some (at (codes "x") Kata (unfinished (codes "ああ")) none)
unfolding encode
put = refl

refused : after (at [] Hira (unfinished []) none) (Char 59) []
    ≡ Some (at [] Hira (unfinished []) (told.Step notices.Reading))
unfolding encode
refused = refl

closed : after (at (codes "x") Hira (unfinished (codes "あ")) none) Cg [] ≡ Some (at (codes "x") Hira plain none)
unfolding encode
closed = refl

confirmed_in : after (at (codes "x") Kata (states.Reading (reading (codes "あ") (codes "n"))) none) Cj []
    ≡ Some (at (codes "xアン") Kata plain none)
unfolding encode
confirmed_in = refl

confirmed_other : after (at (codes "x") Hira (unfinished (codes "あ")) none) (Char 113) []
    ≡ Some (at (codes "xア") Hira plain none)
unfolding encode
confirmed_other = refl

confirmed_back : after (at (codes "x") Kata (unfinished (codes "あ")) none) (Char 113) []
    ≡ Some (at (codes "xあ") Kata plain none)
unfolding encode
confirmed_back = refl

to_ascii : after (at [] Hira (unfinished (codes "あ")) none) (Char 108) []
    ≡ Some (at (codes "あ") Ascii plain none)
unfolding encode
to_ascii = refl

to_wide : after (at [] Hira (unfinished (codes "あ")) none) (Char 76) [] ≡ Some (at (codes "あ") Wide plain none)
unfolding encode
to_wide = refl

opened_again : after (at [] Hira (unfinished (codes "あ")) none) (Char 81) []
    ≡ Some (at (codes "あ") Hira (unfinished []) none)
unfolding encode
opened_again = refl

ended : after (at [] Hira (unfinished (codes "あ")) none) Ret []
    ≡ Some (at (codes "あ" ++ 10 ∷ []) Hira plain none)
unfolding encode
ended = refl

with_okuri : reading_piece Kata (with_begun (codes "おお") 107 (codes "く")) false ≡ codes "オオク"
unfolding encode
with_okuri = refl

-- an upper-case letter is read in an empty reading, and begins an okurigana behind another, which may refuse it
upper_case : map (λ (text : List ℕ). after (at [] Hira (unfinished text) none) (Char 75) []) ([] ∷ codes "あ" ∷ [])
    ≡ Some (at [] Hira (unfinished (codes "k")) none)
    ∷ Some (at [] Hira (states.Reading (with_begun (codes "あ") 107 [])) (told.Step notices.Reading)) ∷ []
unfolding encode
upper_case = refl

-- characters beside the letters and the digits
beside_letters :
    (after (at [] Hira (unfinished (codes "あ")) none) (Char 64) []
    ≡ Some (at [] Hira (unfinished (codes "あ@")) none))
    × (after (at [] Hira (unfinished (codes "あ")) none) (Char 91) []
    ≡ Some (at [] Hira (unfinished (codes "あ[")) none))
    × (asked (pressed rules (at [] Hira (unfinished (codes "あ/:")) none) (Char 32)) found_two
    ≡ Lookup 3 (record { part = Nasi; reading = codes "あ/:" }) None ∷ [])
unfolding encode
beside_letters = (refl, refl, refl)

-- conversion
looked_up : asked
    (pressed rules (at (codes "x") Kata (states.Reading (reading (codes "あ") (codes "n"))) none) (Char 32)) found_two
    ≡ Lookup 3 (record { part = Nasi; reading = codes "あん" }) None ∷ []
unfolding encode
looked_up = refl

-- an okurigana that is whole, a prefix with its `>` and an abbreviation are looked up too,
-- the okurigana with its key's letter
asked_for : map (λ (line : FrameState × Key). asked (pressed rules (at (codes "x") Kata line.0 none) line.1) found_two)
    ((unfinished (codes "あ"), Char 65) ∷ (states.Reading (with_begun (codes "あ") 107 []), Char 97)
    ∷ (unfinished (codes "あ"), Char 62)
    ∷ (states.Reading (reading (codes "あ") (codes "n")), Char 62)
    ∷ (states.Reading (with_begun (codes "あ") 107 (codes "く")), Char 32)
    ∷ (abbreviation (codes "ab"), Char 32) ∷ [])
    ≡ (Lookup 3 (record { part = Ari; reading = codes "あa" }) (Some (codes "あ")) ∷ [])
    ∷ (Lookup 3 (record { part = Ari; reading = codes "あk" }) (Some (codes "あ")) ∷ [])
    ∷ (Lookup 3 (record { part = Nasi; reading = codes "あ>" }) None ∷ [])
    ∷ (Lookup 3 (record { part = Nasi; reading = codes "あん>" }) None ∷ [])
    ∷ (Lookup 3 (record { part = Ari; reading = codes "あk" }) (Some (codes "く")) ∷ [])
    ∷ (Lookup 3 (record { part = Nasi; reading = codes "ab" }) None ∷ []) ∷ []
unfolding encode
asked_for = refl

-- a notice of the key stays where its reading is converted
converted_with_notice : (after (at (codes "x") Hira (states.Reading (with_begun (codes "あ") 107 (codes "く"))) none)
    (Char 49) (Refused refusals.Disk ∷ [])
    ≡ Some (at (codes "x") Hira (states.Reading (with_begun (codes "あ") 107 (codes "く"))) (told.Refused refusals.Disk)))
    × (after (at (codes "x") Hira (states.Reading (with_begun (codes "あ") 107 (codes "く"))) none) (Char 49)
    (Done replies.Purged ∷ [])
    ≡ Some (at (codes "x") Hira (states.Reading (with_begun (codes "あ") 107 (codes "く"))) (told.Step notices.Reading)))
unfolding encode
converted_with_notice = (refl, refl)

unanswered : after (at [] Hira (unfinished (codes "あ")) none) (Char 32) [] ≡ None
unfolding encode
unanswered = refl

shown_first : after (at (codes "x") Hira (unfinished (codes "あ")) (told.Step notices.Reading)) (Char 32) found_two
    ≡ Some (at (codes "x") Hira (picking 0) none)
unfolding encode
shown_first = refl

no_more_asked : after (at (codes "x") Hira (unfinished (codes "あ")) none) (Char 32)
    (Done (replies.Found found) ∷ Done (replies.Found found) ∷ []) ≡ None
unfolding encode
no_more_asked = refl

none_found : after (at (codes "x") Kata (unfinished (codes "あ")) none) (Char 32) (Done (replies.Found []) ∷ [])
    ≡ Some (registering_in (at (codes "x") Kata plain none) (waits.Reading (reading (codes "あ") [])))
unfolding encode
none_found = refl

refused_look_up : after (at (codes "x") Hira (states.Reading (reading (codes "あ") (codes "n"))) none) (Char 32)
    (Refused refusals.Memory ∷ [])
    ≡ Some (at (codes "x") Hira (unfinished (codes "あん")) (told.Refused refusals.Memory))
unfolding encode
refused_look_up = refl

answered_otherwise : after (at [] Hira (unfinished (codes "あ")) none) (Char 32) (Done replies.Purged ∷ [])
    ≡ Some (at [] Hira (unfinished (codes "あ")) none)
unfolding encode
answered_otherwise = refl

-- Two things in one key

-- the session of typist 3 with the notice of the limit
abbrev past_limit : List ℕ → Mode → FrameState → Session
past_limit text mode state = at text mode state (told.Step notices.Limit)

-- where a flush does not fit, what the key does else is done, and the limit is told
flush_past_limit : (text : List ℕ) → has_room (at text Hira plain none) (codes "ん") ≡ false
    → map (pressed rules (at text Hira (states.Plain (codes "n")) none))
    (Char 81 ∷ Char 47 ∷ Char 65 ∷ Char 113 ∷ Char 108 ∷ Char 76 ∷ Cj ∷ [])
    ≡ map (λ (left : Mode × FrameState). ends (past_limit text left.0 left.1))
    ((Hira, unfinished []) ∷ (Hira, abbreviation []) ∷ (Hira, unfinished (codes "あ")) ∷ (Kata, plain) ∷ (Ascii, plain)
    ∷ (Wide, plain) ∷ (Hira, plain) ∷ [])
unfolding encode
flush_past_limit text full = rw full refl

-- a line feed may fit where the flush before it does not, and the limit is told then too; or the flush alone may fit
newline_past_limit : (text : List ℕ) → has_room (at text Hira plain none) (codes "ん") ≡ false
    → has_room (at text Hira plain none) (10 ∷ []) ≡ true
    → pressed rules (at text Hira (states.Plain (codes "n")) none) Ret
    ≡ ends (past_limit (text ++ 10 ∷ []) Hira plain)
unfolding encode
newline_past_limit text full room = rw (full, room) refl

flush_up_to_limit : (text : List ℕ) → has_room (at text Hira plain none) (codes "ん") ≡ true
    → has_room (at (text ++ codes "ん") Hira plain none) (10 ∷ []) ≡ false
    → pressed rules (at text Hira (states.Plain (codes "n")) none) Ret
    ≡ ends (past_limit (text ++ codes "ん") Hira plain)
unfolding encode
flush_up_to_limit text room full = rw (room, full) refl

-- a reading of 252 bytes, with `n` pending, whose kana does not fit behind it
abbrev full : List ℕ
full = replicate 252 97

abbrev flushing : Session
flushing = at (codes "x") Hira (states.Reading (reading full (codes "n"))) none

-- a reading that is confirmed tells what its flush told, whatever comes behind it
confirmed_with_notice : map (λ key. after flushing key []) (Cj ∷ Ret ∷ Char 108 ∷ Char 76 ∷ Char 81 ∷ [])
    ≡ Some (past_limit (codes "x" ++ full) Hira plain)
    ∷ Some (past_limit (codes "x" ++ full ++ 10 ∷ []) Hira plain)
    ∷ Some (past_limit (codes "x" ++ full) Ascii plain)
    ∷ Some (past_limit (codes "x" ++ full) Wide plain)
    ∷ Some (past_limit (codes "x" ++ full) Hira (unfinished [])) ∷ []
unfolding encode
confirmed_with_notice = refl

-- so does one that is converted, unless its look-up is refused
converted_past_limit : map (λ answer. after flushing (Char 32) (answer ∷ []))
    (Done replies.Purged ∷ Refused refusals.Disk ∷ [])
    ≡ Some (past_limit (codes "x") Hira (unfinished full))
    ∷ Some (at (codes "x") Hira (unfinished full) (told.Refused refusals.Disk)) ∷ []
unfolding encode
converted_past_limit = refl

-- candidates that are found leave the notice of their key
found_with_notice : after flushing (Char 32) (Done (replies.Found (cand (codes "亜") [] ∷ [])) ∷ [])
    ≡ Some (past_limit (codes "x") Hira (states.Picking (record {
      reading = reading full [];
      picking = record { shown = shown full (cand (codes "亜") []) ∷ []; place = 0; question = false };
    })))
unfolding encode
found_with_notice = refl

-- a table with an output that no reading begins with
abbrev with_semicolon : List Rule
with_semicolon =
    record { input = codes "x"; next = []; out = record { hira = codes ";"; kata = codes ";" } }
    ∷ record { input = codes "xa"; next = []; out = record { hira = codes "ぁ"; kata = codes "ァ" } } ∷ rules

-- the space that closes a reading, or gives an okurigana up, tells what its flush told
closed_with_notice :
    map (λ reading. end_of (pressed with_semicolon (at (codes "y") Hira (states.Reading reading) none) (Char 32)) [])
    (reading [] (codes "x") ∷ record (with_begun (codes "あ") 120 []) { pending = codes "x" } ∷ [])
    ≡ Some (at (codes "y") Hira plain (told.Step notices.Reading))
    ∷ Some (at (codes "y") Hira (unfinished (codes "あ")) (told.Step notices.Reading)) ∷ []
unfolding encode
closed_with_notice = refl

-- a reading that does not fit stays open, and what comes behind it is not done
not_confirmed : (text : List ℕ) → has_room (at text Hira plain none) (codes "あ") ≡ false
    → map (pressed rules (at text Hira (unfinished (codes "あ")) none)) (Cj ∷ Ret ∷ Char 108 ∷ Char 81 ∷ [])
    ≡ replicate 4 (ends (past_limit text Hira (unfinished (codes "あ"))))
unfolding encode
not_confirmed text full = rw full refl

-- the flush of the key stands all the same
flushed_not_confirmed : (text : List ℕ) → has_room (at text Hira plain none) (codes "あん") ≡ false
    → map (pressed rules (at text Hira (states.Reading (reading (codes "あ") (codes "n"))) none))
    (Cj ∷ Ret ∷ Char 108 ∷ Char 81 ∷ [])
    ≡ replicate 4 (ends (past_limit text Hira (unfinished (codes "あん"))))
unfolding encode
flushed_not_confirmed text full = rw full refl

-- a reading that fits, and a line feed behind it that does not
confirmed_up_to_limit : (text : List ℕ) → has_room (at text Hira plain none) (codes "あ") ≡ true
    → has_room (at (text ++ codes "あ") Hira plain none) (10 ∷ []) ≡ false
    → pressed rules (at text Hira (unfinished (codes "あ")) none) Ret
    ≡ ends (past_limit (text ++ codes "あ") Hira plain)
unfolding encode
confirmed_up_to_limit text room full = rw (room, full) refl

-- in the candidate state
gone_on : after (at (codes "x") Hira (picking 0) none) (Char 32) [] ≡ Some (at (codes "x") Hira (picking 1) none)
unfolding encode
gone_on = refl

gone_back : after (at (codes "x") Hira (picking 0) none) (Char 120) []
    ≡ Some (at (codes "x") Hira (unfinished (codes "あ")) none)
unfolding encode
gone_back = refl

none_named : after (at [] Hira (states.Picking
    (record { reading = reading (codes "あ") []; picking = record { shown = []; place = 4; question = false } })) none)
    (Char 97) []
    ≡ Some (at [] Hira (states.Picking
    (record { reading = reading (codes "あ") []; picking = record { shown = []; place = 4; question = false } }))
    (told.Step notices.NoCandidate))
unfolding encode
none_named = refl

none_left : after (at [] Hira (picking 1) none) (Char 32) []
    ≡ Some (registering_in (at [] Hira plain none) (waits.Picking (conversion 1 false)))
unfolding encode
none_left = refl

-- Choices

-- what an answer tells, what it says was learnt, and whether it says that a word is found no more
abbrev learned : Learned
learned = record { book = 0; key = record { part = Nasi; reading = codes "あ" }; stamp = 8; before = None }

replies_told : map reply_notice (replies.Found found ∷ replies.Readings [] ∷ replies.Learned learned ∷ replies.Purged
    ∷ replies.Unchanged ∷ replies.Restored
    ∷ replies.Overtaken 9 ∷ replies.Overtaken 0 ∷ replies.TooBig 70000 ∷ replies.StampsEnd ∷ replies.Annotated ∷ [])
    ≡ none ∷ none ∷ none ∷ told.Purged ∷ told.Unchanged ∷ told.Undone ∷ told.Overtaken 9 ∷ told.Overtaken 0
    ∷ told.TooBig 70000 ∷ told.StampsEnd ∷ told.Annotated ∷ []
replies_told = refl

abbrev answers : List Answer
answers =
    Done (replies.Learned learned) ∷ Done (replies.Found found) ∷ Done replies.Purged ∷ Done replies.Unchanged
    ∷ Done replies.Restored ∷ Done (replies.TooBig 9) ∷ Done replies.StampsEnd ∷ Refused refusals.Disk
    ∷ Done replies.Annotated ∷ []

answers_told : map answer_notice answers
    ≡ none ∷ none ∷ told.Purged ∷ told.Unchanged ∷ told.Undone ∷ told.TooBig 9 ∷ told.StampsEnd
    ∷ told.Refused refusals.Disk ∷ told.Annotated ∷ []
answers_told = refl

answers_learnt : map learnt_by answers ≡ Some learned ∷ None ∷ None ∷ None ∷ None ∷ None ∷ None ∷ None ∷ None ∷ []
answers_learnt = refl

answers_purged : map says_purged answers ≡ false ∷ false ∷ true ∷ true ∷ false ∷ false ∷ false ∷ false ∷ false ∷ []
answers_purged = refl

answers_annotated : map says_annotated answers
    ≡ false ∷ false ∷ false ∷ true ∷ false ∷ false ∷ false ∷ false ∷ true ∷ []
answers_annotated = refl

-- what is inserted for a candidate: its text and not its word, as it is, and the okurigana in the kana of a mode
abbrev begun : List ℕ → Reading
begun kana = record (reading (codes "おく") []) { okuri = Some (record { letter = 114; text = kana }) }

abbrev numbered : RowKey → List ℕ → Shown
numbered key text = record { key = key; cand = cand (codes "#1り") (codes "注"); text = text }

abbrev sent : Shown
sent = numbered (record { part = Ari; reading = codes "おくr" }) (codes "５り")

inserted : map (λ (l : Mode × Reading). choice_piece l.0 l.1 sent)
    ((Hira, begun (codes "り")) ∷ (Kata, begun (codes "り")) ∷ (Kata, begun []) ∷ (Kata, reading (codes "おく") []) ∷ [])
    ≡ codes "５りり" ∷ codes "５りリ" ∷ codes "５り" ∷ codes "５り" ∷ []
inserted = refl

-- a choice of the candidate of a place of あ: so many characters up to so many bytes, in a mode
abbrev pub choice : ℕ → ℕ → Mode → ℕ → Option Learned → Choice
choice inserted end mode place learned =
    record { inserted = inserted; end = end; mode = mode; conversion = conversion place false; learned = learned }

-- a session with a last choice
abbrev pub chosen : List ℕ → Mode → FrameState → SessionNotice → Choice → Session
chosen text mode state notice last =
    record {
      typist = 3;
      book = 0;
      frame = record { text = text; mode = mode; state = state; last_choice = Some last };
      outer = [];
      notice = notice;
    }

-- what was inserted is counted in characters, and where it ends in bytes
kept : (after_learning (at (codes "x亜リ") Kata plain none) (conversion 1 false) (codes "亜リ")
    (Done (replies.Learned learned))
    ≡ chosen (codes "x亜リ") Kata plain none (choice 2 7 Kata 1 (Some learned)))
    × (after_learning (at (codes "x亜リ") Kata plain none) (conversion 1 false) (codes "亜リ") (Refused refusals.Disk)
    ≡ chosen (codes "x亜リ") Kata plain (told.Refused refusals.Disk) (choice 2 7 Kata 1 None))
unfolding encode
kept = (refl, refl)

-- a choice at one byte less than it had, at as many, and at one more
abbrev last_choice : Choice
last_choice = choice 2 7 Kata 0 (Some learned)

choices_within : map (λ bytes. choice_within bytes (Some last_choice)) (6 ∷ 7 ∷ 8 ∷ [])
    ≡ None ∷ Some last_choice ∷ Some last_choice ∷ []
choices_within = refl

choices_at : map (λ bytes. choice_at bytes (Some last_choice)) (6 ∷ 7 ∷ 8 ∷ []) ≡ None ∷ Some last_choice ∷ None ∷ []
choices_at = refl

no_choice : (choice_within 7 None ≡ None) × (choice_at 7 None ≡ None)
no_choice = (refl, refl)

without : map (λ count. without_chars count (codes "xあ")) (0 ∷ 1 ∷ 2 ∷ 3 ∷ []) ≡ codes "xあ" ∷ codes "x" ∷ [] ∷ [] ∷ []
without = refl

-- keys that choose: what comes behind the choice, and what is kept of it
abbrev learnt : List Answer
learnt = Done (replies.Learned learned) ∷ []

abbrev of_first : Choice
of_first = choice 1 4 Hira 0 (Some learned)

keys_choose : map (λ key. after (at (codes "x") Hira (picking 0) (told.Step notices.Reading)) key learnt)
    (Cj ∷ Ret ∷ Bs ∷ Char 97 ∷ Char 110 ∷ Char 81 ∷ Char 113 ∷ Char 62 ∷ Char 47 ∷ [])
    ≡ Some (chosen (codes "x亜") Hira plain none of_first)
    ∷ Some (chosen (codes "x亜" ++ 10 ∷ []) Hira plain none of_first)
    ∷ Some (at (codes "x") Hira plain none) ∷ Some (chosen (codes "x亜あ") Hira plain none of_first)
    ∷ Some (chosen (codes "x亜") Hira (states.Plain (codes "n")) none of_first)
    ∷ Some (chosen (codes "x亜") Hira (unfinished []) none of_first)
    ∷ Some (chosen (codes "x亜") Kata plain none of_first)
    ∷ Some (chosen (codes "x亜") Hira (unfinished (codes ">")) none of_first)
    ∷ Some (chosen (codes "x亜") Hira (abbreviation []) none of_first) ∷ []
unfolding encode
keys_choose = refl

-- a learning that is not done, of the second candidate: the choice is made, and what it was answered is told
not_learnt : map (λ answer. after (at (codes "x") Kata (picking 1) none) Cj (answer ∷ []))
    (Done (replies.TooBig 9) ∷ Done replies.StampsEnd ∷ Refused refusals.Disk ∷ [])
    ≡ Some (chosen (codes "x阿") Kata plain (told.TooBig 9) (choice 1 4 Kata 1 None))
    ∷ Some (chosen (codes "x阿") Kata plain told.StampsEnd (choice 1 4 Kata 1 None))
    ∷ Some (chosen (codes "x阿") Kata plain (told.Refused refusals.Disk) (choice 1 4 Kata 1 None)) ∷ []
unfolding encode
not_learnt = refl

-- what comes behind a choice leaves what its learning was answered, unless it tells something itself
behind_not_learnt :
    map (λ key. after (at (codes "x") Hira (picking 1) none) key (Done (replies.TooBig 9) ∷ []))
    (Ret ∷ Bs ∷ Char 97 ∷ Char 81 ∷ Char 62 ∷ Char 113 ∷ [])
    ≡ Some (chosen (codes "x阿" ++ 10 ∷ []) Hira plain (told.TooBig 9) (choice 1 4 Hira 1 None))
    ∷ Some (at (codes "x") Hira plain (told.TooBig 9))
    ∷ Some (chosen (codes "x阿あ") Hira plain (told.TooBig 9) (choice 1 4 Hira 1 None))
    ∷ Some (chosen (codes "x阿") Hira (unfinished []) (told.TooBig 9) (choice 1 4 Hira 1 None))
    ∷ Some (chosen (codes "x阿") Hira (unfinished (codes ">")) (told.TooBig 9) (choice 1 4 Hira 1 None))
    ∷ Some (chosen (codes "x阿") Kata plain (told.TooBig 9) (choice 1 4 Hira 1 None)) ∷ []
unfolding encode
behind_not_learnt = refl

-- a choice that fits, with what does not fit behind it: the limit is told in place of the answer
choice_up_to_limit : (text : List ℕ) → has_room (at text Hira plain none) (codes "亜") ≡ true
    → has_room (at (text ++ codes "亜") Hira plain none) (10 ∷ []) ≡ false
    → end_of (pressed rules (at text Hira (picking 0) none) Ret) (Refused refusals.Disk ∷ [])
    ≡ (let whole = text ++ codes "亜" in
    Some (chosen whole Hira plain (told.Step notices.Limit) (choice 1 (byte_len whole) Hira 0 None)))
unfolding encode
choice_up_to_limit text room full = rw (room, full) refl

-- pages: a letter chooses its candidate, and no key is read behind it
abbrev pages : FrameState
pages = states.Picking (record {
  reading = begun (codes "り");
  picking = record {
    shown = sent ∷ sent ∷ sent ∷ sent ∷ sent ∷ numbered (record { part = Ari; reading = codes "だいr" }) (codes "六") ∷ [];
    place = 4;
    question = false;
  };
})

-- a session, and the state of it after a key with an answer to its call
abbrev text_after : Session → Key → List Answer → Option (List ℕ × FrameState)
text_after session key answers = option_map (λ (s : Session). (text_of s, s.frame.state)) (after session key answers)

page_chooses : map (λ key. text_after (at (codes "x") Kata pages none) key learnt) (Char 97 ∷ Char 115 ∷ [])
    ≡ Some (codes "x５りリ", plain) ∷ Some (codes "x六リ", plain) ∷ []
unfolding encode
page_chooses = refl

-- a candidate is learnt in the book, under its key, with its okurigana, and as it was found
asks_learning : map (λ key. asked (pressed rules (at (codes "x") Kata pages none) key) learnt) (Char 97 ∷ Char 115 ∷ [])
    ≡ (Learn 0 (record { part = Ari; reading = codes "おくr" }) (Some (codes "り")) (cand (codes "#1り") (codes "注")) ∷ [])
    ∷ (Learn 0 (record { part = Ari; reading = codes "だいr" }) (Some (codes "り")) (cand (codes "#1り") (codes "注")) ∷ [])
    ∷ []
unfolding encode
asks_learning = refl

asks_once : (asked (pressed rules (record (at [] Hira (picking 1) none) { book = 3 }) (Char 97)) learnt
    ≡ Learn 3 (record { part = Nasi; reading = codes "あ" }) None (cand (codes "阿") (codes "二")) ∷ [])
    × (asked (pressed rules (at [] Hira (picking 0) none) (Char 62)) learnt
    ≡ Learn 0 (record { part = Nasi; reading = codes "あ" }) None (cand (codes "亜") []) ∷ [])
    × (after (at [] Hira (picking 0) none) Cj [] ≡ None)
unfolding encode
asks_once = (refl, refl, refl)

-- a choice that does not fit asks nothing, and the candidates stay
no_room : (text : List ℕ) → has_room (at text Hira plain none) (codes "亜") ≡ false
    → map (pressed rules (at text Hira (picking 0) none)) (Char 97 ∷ Cj ∷ Ret ∷ Bs ∷ Char 62 ∷ Char 81 ∷ [])
    ≡ replicate 6 (ends (past_limit text Hira (picking 0)))
unfolding encode
no_room text full = rw full refl

-- Purges

abbrev question : FrameState
question = states.Picking (conversion 1 true)

purge_asked : after (at [] Hira (picking 1) none) (Char 88) [] ≡ Some (at [] Hira question none)
unfolding encode
purge_asked = refl

-- `y` and `Y` purge; any other key ends the question
abbrev word_purged : List Answer
word_purged = Done replies.Purged ∷ []

purged : (map (λ key. after (at (codes "x") Hira question none) key word_purged) (Char 121 ∷ Char 89 ∷ [])
    ≡ Some (at (codes "x") Hira plain told.Purged) ∷ Some (at (codes "x") Hira plain told.Purged) ∷ [])
    × (map (λ key. after (at (codes "x") Hira question none) key []) (Char 110 ∷ Char 88 ∷ Cj ∷ Undo ∷ [])
    ≡ Some (at (codes "x") Hira (picking 1) none) ∷ Some (at (codes "x") Hira (picking 1) none)
    ∷ Some (at (codes "x") Hira (picking 1) none) ∷ Some (at (codes "x") Hira (picking 1) none) ∷ [])
unfolding encode
purged = (refl, refl)

-- the candidates are closed where there was nothing to purge, and stay where the purge was not done
purge_answered : map (λ answer. after (at (codes "x") Hira question none) (Char 121) (answer ∷ []))
    (Done replies.Unchanged ∷ Done (replies.TooBig 9) ∷ Done replies.StampsEnd ∷ Refused refusals.Memory ∷ [])
    ≡ Some (at (codes "x") Hira plain told.Unchanged)
    ∷ Some (at (codes "x") Hira (picking 1) (told.TooBig 9))
    ∷ Some (at (codes "x") Hira (picking 1) told.StampsEnd)
    ∷ Some (at (codes "x") Hira (picking 1) (told.Refused refusals.Memory)) ∷ []
unfolding encode
purge_answered = refl

-- a word is purged from the book, under its key, as it was found
asks_purge : asked (pressed rules (at (codes "x") Kata (states.Picking
    (record { reading = begun (codes "り"); picking = record { shown = sent ∷ []; place = 0; question = true } })) none)
    (Char 121)) word_purged
    ≡ Purge 0 (record { part = Ari; reading = codes "おくr" }) (codes "#1り") ∷ []
unfolding encode
asks_purge = refl

-- Taking back

-- the candidates are shown again in the mode of the choice, without what was inserted,
-- with what the dictionary says of it
taken_back : map
    (λ answer. after (chosen (codes "x亜リ") Hira (states.Plain (codes "n")) none last_choice) Undo (answer ∷ []))
    (Done replies.Restored ∷ Done (replies.Overtaken 2) ∷ Refused refusals.Memory ∷ [])
    ≡ Some (at (codes "x") Kata (picking 0) told.Undone)
    ∷ Some (at (codes "x") Kata (picking 0) (told.Overtaken 2))
    ∷ Some (at (codes "x") Kata (picking 0) (told.Refused refusals.Memory)) ∷ []
unfolding encode
taken_back = refl

asks_taking_back : asked (pressed rules (chosen (codes "x亜リ") Hira plain none last_choice) Undo)
    (Done replies.Restored ∷ []) ≡ Unlearn learned ∷ []
unfolding encode
asks_taking_back = refl

-- where nothing was learnt nothing is asked
back_unlearnt : after (chosen (codes "x亜リ") Hira plain none (choice 2 7 Kata 1 None)) Undo []
    ≡ Some (at (codes "x") Kata (picking 1) told.Undone)
unfolding encode
back_unlearnt = refl

-- where more was typed it can't be taken back, until that is deleted again; where less is left it is given up
longer : (after (chosen (codes "x亜リy") Hira plain none last_choice) Undo []
    ≡ Some (chosen (codes "x亜リy") Hira plain (told.Step notices.NoUndo) last_choice))
    × (after (chosen (codes "x亜リy") Hira plain none last_choice) Bs []
    ≡ Some (chosen (codes "x亜リ") Hira plain none last_choice))
    × (after (chosen (codes "x亜リ") Hira plain none last_choice) Bs [] ≡ Some (at (codes "x亜") Hira plain none))
unfolding encode
longer = (refl, refl, refl)

-- keys one after another
several : end_of (all_pressed rules (at [] Hira plain none) (Char 65 ∷ Char 32 ∷ Char 32 ∷ [])) found_two
    ≡ Some (at [] Hira (picking 1) none)
unfolding encode
several = refl

-- a word is typed where nothing was found
registered_a : end_of (all_pressed rules (at [] Hira plain none) (Char 65 ∷ Char 32 ∷ Char 97 ∷ []))
    (Done (replies.Found []) ∷ [])
    ≡ Some (record (registering_in (at [] Hira plain none) (waits.Reading (reading (codes "あ") []))) {
      frame = record new_frame { text = codes "あ" };
    })
unfolding encode
registered_a = refl
