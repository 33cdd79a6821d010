-- Note lines, as the definitions compute them.
use Rattle.std.proofs.Common.{◌≡◌, refl, ℕ, true, false, map, Some, None, List, [], ◌∷◌, codes}
use lib.Utf8.{encode}
use Rattle.skk_text.specs.declared.key.Key.{Key}
use Rattle.skk_text.specs.declared.key.Key.TheVariants.{Char, Cj, Cg, Bs, Ret, Tab}
use Rattle.skk_text.specs.declared.mode.Mode.TheVariants.{Hira, Kata, Ascii, Wide}
use Rattle.skk_text.specs.Lists.{is_empty}
use Rattle.skk_text.specs.Text.{byte_len}
use Rattle.skk_text.specs.declared.notice.Notice.TheVariants as notices
use Rattle.skk_calls.specs.declared.answer.Answer.{Answer}
use Rattle.skk_calls.specs.declared.answer.Answer.TheVariants.{Done, Refused}
use Rattle.skk_calls.specs.declared.answer.Refusal.TheVariants as refusals
use Rattle.skk_calls.specs.declared.answer.Reply.TheVariants as replies
use Rattle.skk_calls.specs.declared.call.Call.TheVariants.{Learn, Annotate}
use Rattle.skk_calls.specs.declared.part.Part.TheVariants.{Nasi}
use Rattle.skk_calls.specs.Interactions.{asked}
use Rattle.skk_calls.specs.Rows.{Cand, is_note}
use Rattle.candidate_state.specs.Shown.{Shown}
use Rattle.session_machine.specs.declared.frame.Conversion.{Conversion}
use Rattle.session_machine.specs.declared.frame.OuterFrame.{OuterFrame}
use Rattle.session_machine.specs.declared.frame.FrameState.{FrameState}
use Rattle.session_machine.specs.declared.frame.FrameState.TheVariants as states
use Rattle.session_machine.specs.declared.frame.Waiting.TheVariants as waits
use Rattle.session_machine.specs.declared.session_notice.SessionNotice.TheVariants as told
use Rattle.session_machine.specs.Meanings.{becomes}
use Rattle.session_machine.specs.Notes.{note_fits, opens_note}
use Rattle.session_machine.specs.Pressed.{pressed}
use Rattle.session_machine.specs.Registrations.{ended_in}
use Rattle.session_machine.proofs.Examples.{rules, after, at, none, plain, reading, cand, conversion, choice, chosen}
use Rattle.session_machine.proofs.RegistrationExamples.{outer, inside, waits_a, nested, lacking}

-- a candidate of a number key, with its word and the text that it is shown as, and several of them, of which the one at
-- a place is shown
abbrev numbered : Shown
numbered = record {
  key = record { part = Nasi; reading = codes "#年" };
  cand = cand (codes "#1年") (codes "暦");
  text = codes "９年";
}

abbrev years : Shown → ℕ → Conversion
years first place = record {
  reading = reading (codes "9年") [];
  picking = record {
    shown = first ∷ numbered ∷ numbered ∷ numbered ∷ numbered ∷ [];
    place = place;
    question = false;
  };
}

-- the frame outside a note line over the second candidate of あ, and over the one of a number key
abbrev line_over : Conversion → OuterFrame
line_over conversion = outer (codes "x") Kata (waits.Note conversion)

abbrev over_second : OuterFrame
over_second = line_over (conversion 1 false)

-- the candidates of あ, of which the second has a note, is shown
abbrev second_noted : List ℕ → FrameState
second_noted note = states.Picking (record {
  reading = reading (codes "あ") [];
  picking = record {
    shown = shown_a (cand (codes "亜") []) ∷ shown_a (cand (codes "阿") note) ∷ [];
    place = 1;
    question = false;
  };
})
  where
    shown_a : Cand → Shown
    shown_a cand = record { key = record { part = Nasi; reading = codes "あ" }; cand = cand; text = cand.word }

abbrev annotated : Answer
annotated = Done replies.Annotated

-- Opening

-- `^` opens a note line over a single candidate, the last one before the pages too
opens : (after (at (codes "x") Kata (states.Picking (conversion 1 false)) none) (Char 94) []
    ≡ Some (inside (over_second ∷ []) [] Hira plain none))
    × (after (at (codes "x") Kata (states.Picking (years numbered 3)) none) (Char 94) []
    ≡ Some (inside (line_over (years numbered 3) ∷ []) [] Hira plain none))
unfolding encode
opens = (refl, refl)

-- on a page it does nothing, and where it is asked if the candidate is to be purged it ends the question
opens_none : (after (at (codes "x") Kata (states.Picking (years numbered 4)) none) (Char 94) []
    ≡ Some (at (codes "x") Kata (states.Picking (years numbered 4)) none))
    × (after (at (codes "x") Kata (states.Picking (conversion 1 true)) none) (Char 94) []
    ≡ Some (at (codes "x") Kata (states.Picking (conversion 1 false)) none))
unfolding encode
opens_none = (refl, refl)

-- no other key opens one, and neither does `^` elsewhere
only_by_caret : map (opens_note (conversion 1 false).picking)
    (Char 94 ∷ Char 93 ∷ Char 95 ∷ Char 126 ∷ Cj ∷ Cg ∷ Bs ∷ Ret ∷ Tab ∷ [])
    ≡ true ∷ false ∷ false ∷ false ∷ false ∷ false ∷ false ∷ false ∷ false ∷ []
only_by_caret = refl

caret_typed : after (at (codes "x") Ascii plain none) (Char 94) [] ≡ Some (at (codes "x^") Ascii plain none)
unfolding encode
caret_typed = refl

-- it counts among the registrations: inside eight of them none opens, and inside seven one does
ninth : map (λ count. after (inside (nested count) (codes "o") Hira (states.Picking (conversion 1 false)) none)
    (Char 94) []) (8 ∷ 7 ∷ [])
    ≡ Some (inside (nested 8) (codes "o") Hira (states.Picking (conversion 1 false)) told.Depth)
    ∷ Some (inside (waits_a ∷ waits_a ∷ waits_a ∷ waits_a ∷ waits_a ∷ waits_a ∷ waits_a
    ∷ outer (codes "o") Hira (waits.Note (conversion 1 false)) ∷ []) [] Hira plain none) ∷ []
unfolding encode
ninth = refl

-- Cancelling

-- a control-g in the kana modes and a return without a text go back to the candidates as they were
cancels : map (λ (l : List ℕ × Key). after (inside (over_second ∷ []) l.0 Hira plain none) l.1 [])
    ((codes "word", Cg) ∷ ([], Ret) ∷ [])
    ≡ Some (at (codes "x") Kata (states.Picking (conversion 1 false)) none)
    ∷ Some (at (codes "x") Kata (states.Picking (conversion 1 false)) none) ∷ []
unfolding encode
cancels = refl

cancels_not : map (λ mode. after (inside (over_second ∷ []) (codes "word") mode plain none) Cg []) (Ascii ∷ Wide ∷ [])
    ≡ Some (inside (over_second ∷ []) (codes "word") Ascii plain none)
    ∷ Some (inside (over_second ∷ []) (codes "word") Wide plain none) ∷ []
unfolding encode
cancels_not = refl

-- Ending

-- the candidate is annotated in the book, under its key, with its word as it was found: not as it is shown, and without
-- the note that it has
asks_note : (asked (pressed rules (inside (over_second ∷ []) (codes "よい") Ascii plain none) Ret) (annotated ∷ [])
    ≡ Annotate 0 (record { part = Nasi; reading = codes "あ" }) (cand (codes "阿") (codes "*よい")) ∷ [])
    × (asked (pressed rules (record (inside (line_over (years numbered 0) ∷ []) (codes "n") Ascii plain none) {
      book = 3;
    }) Ret) (annotated ∷ [])
    ≡ Annotate 3 (record { part = Nasi; reading = codes "#年" }) (cand (codes "#1年") (codes "*n")) ∷ [])
unfolding encode
asks_note = (refl, refl)

-- the candidates stand again, and the candidate has the new note where it has it in the dictionary
answered : map (λ answer. after (inside (over_second ∷ []) (codes "よい") Ascii plain none) Ret (answer ∷ []))
    (annotated ∷ Done replies.Unchanged ∷ Done (replies.TooBig 65536) ∷ Done replies.StampsEnd ∷ lacking
    ∷ Refused refusals.Disk ∷ Refused (refusals.JournalFull 18 90 100) ∷ [])
    ≡ Some (at (codes "x") Kata (second_noted (codes "*よい")) told.Annotated)
    ∷ Some (at (codes "x") Kata (second_noted (codes "*よい")) told.Unchanged)
    ∷ Some (at (codes "x") Kata (second_noted (codes "二")) (told.TooBig 65536))
    ∷ Some (at (codes "x") Kata (second_noted (codes "二")) told.StampsEnd)
    ∷ Some (at (codes "x") Kata (second_noted (codes "二")) (told.Refused refusals.Memory))
    ∷ Some (at (codes "x") Kata (second_noted (codes "二")) (told.Refused refusals.Disk))
    ∷ Some (at (codes "x") Kata (second_noted (codes "二")) (told.Refused (refusals.JournalFull 18 90 100))) ∷ []
unfolding encode
answered = refl

-- the candidate of a number key is shown as it was, and those beside it have no new note
number_answered : after (inside (line_over (years numbered 0) ∷ []) (codes "n") Ascii plain none) Ret (annotated ∷ [])
    ≡ Some (at (codes "x") Kata
    (states.Picking (years (record numbered { cand = cand (codes "#1年") (codes "*n") }) 0)) told.Annotated)
unfolding encode
number_answered = refl

-- a text with a `/`, CR or LF is no note, and the line stays; any other character may be in one
bad_texts : map (λ text. after (inside (over_second ∷ []) text Ascii plain none) Ret [])
    (codes "a/b" ∷ (97 ∷ 13 ∷ []) ∷ (10 ∷ 97 ∷ []) ∷ [])
    ≡ Some (inside (over_second ∷ []) (codes "a/b") Ascii plain told.BadNote)
    ∷ Some (inside (over_second ∷ []) (97 ∷ 13 ∷ []) Ascii plain told.BadNote)
    ∷ Some (inside (over_second ∷ []) (10 ∷ 97 ∷ []) Ascii plain told.BadNote) ∷ []
unfolding encode
bad_texts = refl

good_texts : map (λ text. asked (pressed rules (inside (over_second ∷ []) text Ascii plain none) Ret) (annotated ∷ []))
    (codes ";*." ∷ (9 ∷ 92 ∷ []) ∷ [])
    ≡ (Annotate 0 (record { part = Nasi; reading = codes "あ" }) (cand (codes "阿") (codes "*;*.")) ∷ [])
    ∷ (Annotate 0 (record { part = Nasi; reading = codes "あ" }) (cand (codes "阿") (42 ∷ 9 ∷ 92 ∷ [])) ∷ []) ∷ []
unfolding encode
good_texts = refl

-- a word of three bytes, the `*` and a text of 4,091 have the 4,095 bytes that there may be, and one more is too many
longest_text : (text : List ℕ) → byte_len text ≡ 4091 → note_fits (cand (codes "阿") []) text ≡ true
unfolding encode
longest_text text long = rw long refl

too_long_text : (text : List ℕ) → byte_len text ≡ 4092 → note_fits (cand (codes "阿") []) text ≡ false
unfolding encode
too_long_text text long = rw long refl

-- the note that the candidate had is not counted
old_note : (text : List ℕ) → byte_len text ≡ 4091 → note_fits (cand (codes "阿") (codes "二")) text ≡ true
unfolding encode
old_note text long = rw long refl

-- a text that is too long asks nothing, and the line stays
too_long : (text : List ℕ) → is_empty text ≡ false → is_note text ≡ true
    → note_fits (cand (codes "阿") (codes "二")) text ≡ false
    → ended_in (inside (over_second ∷ []) text Ascii plain none) over_second
    ≡ becomes (inside (over_second ∷ []) text Ascii plain (told.Step notices.Limit))
too_long text some good long = rw (some, good, long) refl

-- that it is no note is told first
bad_and_long : (text : List ℕ) → is_empty text ≡ false → is_note text ≡ false
    → note_fits (cand (codes "阿") (codes "二")) text ≡ false
    → ended_in (inside (over_second ∷ []) text Ascii plain none) over_second
    ≡ becomes (inside (over_second ∷ []) text Ascii plain told.BadNote)
bad_and_long text some bad long = rw (some, bad) refl

-- what is pending belongs to the text, and so does a reading, which is confirmed, and a candidate, which is chosen
confirms : (asked (pressed rules (inside (over_second ∷ []) (codes "よ") Hira (states.Plain (codes "n")) none) Ret)
    (annotated ∷ [])
    ≡ Annotate 0 (record { part = Nasi; reading = codes "あ" }) (cand (codes "阿") (codes "*よん")) ∷ [])
    × (asked (pressed rules (inside (over_second ∷ []) (codes "よ") Kata
    (states.Reading (reading (codes "い") [])) none) Ret) (annotated ∷ [])
    ≡ Annotate 0 (record { part = Nasi; reading = codes "あ" }) (cand (codes "阿") (codes "*よイ")) ∷ [])
    × (asked (pressed rules (inside (over_second ∷ []) (codes "よ") Hira
    (states.Picking (conversion 0 false)) none) Ret) (lacking ∷ annotated ∷ [])
    ≡ Learn 0 (record { part = Nasi; reading = codes "あ" }) None (cand (codes "亜") [])
    ∷ Annotate 0 (record { part = Nasi; reading = codes "あ" }) (cand (codes "阿") (codes "*よ亜")) ∷ [])
unfolding encode
confirms = (refl, refl, refl)

-- the answer to the annotation is told, and not what was told before it in the same key
later_told : after (inside (over_second ∷ []) (codes "よ") Hira (states.Picking (conversion 0 false)) none) Ret
    (lacking ∷ annotated ∷ [])
    ≡ Some (at (codes "x") Kata (second_noted (codes "*よ亜")) told.Annotated)
unfolding encode
later_told = refl

-- what was chosen last outside stays there, however a note line ends
abbrev over_chosen : OuterFrame
over_chosen = record (outer (codes "x亜") Kata (waits.Note (conversion 1 false))) {
  last_choice = Some (choice 1 4 Kata 0 None);
}

last_choices : (map (λ answer. after (inside (over_chosen ∷ []) (codes "よ") Hira plain none) Ret (answer ∷ []))
    (annotated ∷ lacking ∷ [])
    ≡ Some (chosen (codes "x亜") Kata (second_noted (codes "*よ")) told.Annotated (choice 1 4 Kata 0 None))
    ∷ Some (chosen (codes "x亜") Kata (second_noted (codes "二")) (told.Refused refusals.Memory) (choice 1 4 Kata 0 None))
    ∷ [])
    × (map (λ (l : List ℕ × Key). after (inside (over_chosen ∷ []) l.0 Hira plain none) l.1 [])
    ((codes "word", Cg) ∷ ([], Ret) ∷ [])
    ≡ Some (chosen (codes "x亜") Kata (second_noted (codes "二")) none (choice 1 4 Kata 0 None))
    ∷ Some (chosen (codes "x亜") Kata (second_noted (codes "二")) none (choice 1 4 Kata 0 None)) ∷ [])
unfolding encode
last_choices = (refl, refl)

-- a note line inside a registration ends in it, and the word of a registration inside a note line belongs to the note
nested_lines : (after (inside (waits_a ∷ over_second ∷ []) (codes "よい") Ascii plain none) Ret (annotated ∷ [])
    ≡ Some (record (at (codes "x") Kata (second_noted (codes "*よい")) told.Annotated) { outer = waits_a ∷ [] }))
    × (after (inside (over_second ∷ outer (codes "o") Hira (waits.Reading (reading (codes "ん") [])) ∷ [])
    (codes "亜") Hira plain none) Ret (lacking ∷ [])
    ≡ Some (inside (over_second ∷ []) (codes "o亜") Hira plain (told.Refused refusals.Memory)))
unfolding encode
nested_lines = (refl, refl)
