-- Registrations: where no dictionary has a word for a reading, it is typed in a frame of its own, and learnt. A note
-- line is such a frame too, whose text is a note of the candidate that it stands over.
use Rattle.std.specs.Prelude.{ℕ, ◌&&◌, ◌==◌, ◌-◌, if◌then◌else◌, Option, None, List, [], ◌∷◌, ◌++◌}
use Rattle.std.specs.Prelude.{length, slice_get, take}
use Rattle.std.specs.Option.{option_map_or}
use Rattle.skk_text.specs.Lines.{line_feed}
use Rattle.skk_text.specs.Lists.{is_empty}
use Rattle.skk_text.specs.Modes.{in_kana_of}
use Rattle.skk_text.specs.declared.mode.Mode.{Mode}
use Rattle.skk_text.specs.declared.notice.Notice.TheVariants as notices
use Rattle.numeric_entries.specs.Forms.{fill}
use Rattle.numeric_entries.specs.Numbers.{numbers_of}
use Rattle.skk_calls.specs.declared.answer.Answer.{Answer}
use Rattle.skk_calls.specs.declared.call.Call.{Call}
use Rattle.skk_calls.specs.declared.call.Call.TheVariants.{Learn}
use Rattle.skk_calls.specs.Interactions.{asks}
use Rattle.skk_calls.specs.Rows.{Cand, is_note, is_word}
use Rattle.reading_state.specs.Keys.{okuri_of}
use Rattle.reading_state.specs.Puts.{Reading}
use Rattle.candidate_state.specs.Shown.{Shown}
use Rattle.session_machine.specs.Answered.{answer_notice}
use Rattle.session_machine.specs.declared.frame.Conversion.{Conversion}
use Rattle.session_machine.specs.declared.frame.Frame.{Frame}
use Rattle.session_machine.specs.declared.frame.OuterFrame.{OuterFrame}
use Rattle.session_machine.specs.declared.frame.FrameState.{FrameState}
use Rattle.session_machine.specs.declared.frame.FrameState.TheVariants as states
use Rattle.session_machine.specs.declared.frame.Waiting.{Waiting}
use Rattle.session_machine.specs.declared.frame.Waiting.TheVariants as waits
use Rattle.session_machine.specs.declared.returning.Return.{Return}
use Rattle.session_machine.specs.declared.returning.Return.TheVariants as returns
use Rattle.session_machine.specs.declared.session_notice.SessionNotice.TheVariants as told
use Rattle.session_machine.specs.Meanings.{Meaning, becomes}
use Rattle.session_machine.specs.Notes.{after_annotation, annotation, note_fits, noted}
use Rattle.session_machine.specs.ReadingParts.{kana_begun, registered_key}
use Rattle.session_machine.specs.Session.{Session, new_frame, with_state, noting, telling, fits_behind, with_insertion}

-- Frames

-- how many registrations and note lines there are at most, each inside the one before it
abbrev pub depth_limit : ℕ
depth_limit = 8

-- the reading that a word is waited for, or for whose candidate a note is
abbrev pub waiting_reading : Waiting → Reading
waiting_reading (waits.Reading reading) = reading
waiting_reading (waits.Picking conversion) = conversion.reading
waiting_reading (waits.Note conversion) = conversion.reading

-- the state of a frame that waits, once it waits no more and neither a word nor a note came
abbrev pub waiting_state : Waiting → FrameState
waiting_state (waits.Reading reading) = states.Reading reading
waiting_state (waits.Picking conversion) = states.Picking conversion
waiting_state (waits.Note conversion) = states.Picking conversion

-- a frame outside a registration or a note line, which waits for a word or a note
abbrev pub outside : Frame → Waiting → OuterFrame
outside frame waiting =
    record { text = frame.text; mode = frame.mode; waiting = waiting; last_choice = frame.last_choice }

-- a frame as it was before it waited
abbrev pub as_before : OuterFrame → Frame
as_before frame = record {
  text = frame.text;
  mode = frame.mode;
  state = waiting_state frame.waiting;
  last_choice = frame.last_choice;
}

-- the innermost of the frames outside, where there is one
abbrev pub innermost : List OuterFrame → Option OuterFrame
innermost frames = slice_get frames (length frames - 1)

-- the frames outside that
abbrev pub beyond : List OuterFrame → List OuterFrame
beyond frames = take (length frames - 1) frames

-- Opening and cancelling

-- a session in which a registration or a note line opens, unless there are as many as there may be: then what waits
-- stays
abbrev pub registering : Session → Waiting → Session
registering session waiting =
    if length session.outer == depth_limit
    then record (with_state session (waiting_state waiting)) { notice = told.Depth }
    else record session { frame = new_frame; outer = session.outer ++ outside session.frame waiting ∷ [] }

-- a session that goes back to a frame outside as that was, and drops what stands inside
abbrev pub back_in : Session → OuterFrame → Session
back_in session frame = record session { frame = as_before frame; outer = beyond session.outer }

-- a session without its innermost registration or note line, where it is in one
abbrev pub cancelled : Session → Session
cancelled session = option_map_or (back_in session) (innermost session.outer) session

-- Ending a registration

-- what is inserted outside for a word that was typed for a reading: the word filled with the reading's numbers, those
-- that would be looked up as digits, and the okurigana in the kana of a mode
abbrev pub registered_piece : Mode → Reading → List ℕ → List ℕ
registered_piece mode reading word =
    let numbers = numbers_of reading.text in
    fill word numbers numbers ++ in_kana_of mode (kana_begun reading.okuri)

-- a frame outside in which the piece of its word was inserted: it waits no more, and nothing is chosen last
abbrev pub with_word : OuterFrame → List ℕ → Frame
with_word frame piece =
    record { text = frame.text ++ piece; mode = frame.mode; state = states.Plain []; last_choice = None }

-- a session behind a registration, whose learning was answered: the piece of its word is inserted outside
abbrev pub registered : Session → OuterFrame → List ℕ → Answer → Session
registered session frame piece answer =
    telling (record session { frame = with_word frame piece; outer = beyond session.outer }) (answer_notice answer)

-- the call that learns a word which was typed for a reading
abbrev pub registration : ℕ → Reading → List ℕ → Call
registration book reading word =
    Learn book (registered_key reading) (okuri_of reading) (record { word = word; note = [] })

-- what the end of a registration in a frame comes to: its text is the word that is learnt and inserted outside. With no
-- word it is cancelled, and with one that is too long, or does not fit outside, it stays
abbrev pub word_ended : Session → OuterFrame → Meaning
word_ended session frame =
    let word = session.frame.text in
    let reading = waiting_reading frame.waiting in
    let piece = registered_piece frame.mode reading word in
    if is_empty word then becomes (back_in session frame)
    else if is_word word && fits_behind frame.text piece
    then asks (registration session.book reading word) (λ answer. becomes (registered session frame piece answer))
    else becomes (noting session notices.Limit)

-- Ending a note line

-- the state that stands again behind a note line, whose annotation of a candidate was answered
abbrev pub state_noted : Waiting → Cand → Answer → FrameState
state_noted (waits.Note conversion) cand answer = states.Picking (after_annotation conversion cand answer)
state_noted waiting cand answer = waiting_state waiting

-- a session behind a note line, whose annotation of a candidate was answered: the candidates stand again, and nothing
-- else of the frame outside is another
abbrev pub annotated : Session → OuterFrame → Cand → Answer → Session
annotated session frame cand answer =
    record (with_state (back_in session frame) (state_noted frame.waiting cand answer)) {
      notice = answer_notice answer;
    }

-- what the end of a note line over a candidate comes to, whose text a note may hold: the candidate is annotated with it
-- in the session's book. One that is too long stays
abbrev pub annotating : Session → OuterFrame → Shown → Meaning
annotating session frame shown =
    let text = session.frame.text in
    if note_fits shown.cand text
    then asks (annotation session.book shown.key shown.cand text)
    (λ answer. becomes (annotated session frame (noted shown.cand text) answer))
    else becomes (noting session notices.Limit)

-- what the end of a note line in a frame comes to: its text is the note of the candidate that is picked there. With no
-- text it is cancelled, and with one that no note may hold it stays
abbrev pub note_ended : Session → OuterFrame → Conversion → Meaning
note_ended session frame conversion =
    let picking = conversion.picking in
    if is_empty session.frame.text then becomes (back_in session frame)
    else if is_note session.frame.text
    then option_map_or (annotating session frame) (slice_get picking.shown picking.place)
    (becomes (back_in session frame))
    else becomes (record session { notice = told.BadNote })

-- Returns

-- what the end of the line comes to that stands in a frame, by what waits there
abbrev pub line_ended : Session → OuterFrame → Waiting → Meaning
line_ended session frame (waits.Note conversion) = note_ended session frame conversion
line_ended session frame waiting = word_ended session frame

-- what the end of the line that stands in a frame comes to
abbrev pub ended_in : Session → OuterFrame → Meaning
ended_in session frame = line_ended session frame frame.waiting

-- what a return comes to: a new line, or the end of the innermost registration or note line
abbrev pub returned : Session → Meaning
returned session =
    option_map_or (ended_in session) (innermost session.outer) (becomes (with_insertion session (line_feed ∷ [])))

-- what comes of what a return does
abbrev pub return_effect : Session → Return → Meaning
return_effect session returns.NewLine = becomes (with_insertion session (line_feed ∷ []))
return_effect session returns.Cancel = becomes (cancelled session)
return_effect session (returns.Stay notice) = becomes (record session { notice = notice })
return_effect session (returns.Learn call piece) = asks call (λ answer. becomes
    (option_map_or (λ frame. registered session frame piece answer) (innermost session.outer) session))
return_effect session (returns.Annotate call cand) = asks call (λ answer. becomes
    (option_map_or (λ frame. annotated session frame cand answer) (innermost session.outer) session))
