-- The meaning of a key: what a session asks the dictionary, and the session after it.
use Rattle.std.specs.Prelude.{ℕ, Bool, if◌then◌else◌, Option, None, Some, List, [], ◌∷◌, ◌++◌, length, slice_get}
use Rattle.std.specs.Option.{option_map_or}
use Rattle.skk_text.specs.Modes.{other_kana, in_kana_of}
use Rattle.skk_text.specs.Text.{byte_len}
use Rattle.skk_text.specs.declared.key.Key.{Key}
use Rattle.skk_text.specs.declared.key.Key.TheVariants.{Char}
use Rattle.skk_text.specs.declared.mode.Mode.{Mode}
use Rattle.skk_text.specs.declared.mode.Mode.TheVariants.{Ascii, Wide}
use Rattle.skk_text.specs.declared.notice.Notice.TheVariants as notices
use Rattle.romaji_rules.specs.declared.rule.Rule.{Rule}
use Rattle.skk_calls.specs.declared.answer.Answer.{Answer}
use Rattle.skk_calls.specs.declared.call.Call.TheVariants.{Learn, Purge, Unlearn}
use Rattle.skk_calls.specs.Interactions.{asks, followed_by}
use Rattle.skk_calls.specs.Rows.{Learned}
use Rattle.kana_input.specs.declared.plain.Plain.{Plain}
use Rattle.kana_input.specs.declared.plain.PlainThen.{PlainThen}
use Rattle.kana_input.specs.declared.plain.PlainThen.TheVariants as plain
use Rattle.kana_input.specs.Plain.{plain_step}
use Rattle.reading_state.specs.declared.reading_do.AfterConfirm.{AfterConfirm}
use Rattle.reading_state.specs.declared.reading_do.AfterConfirm.TheVariants as behind
use Rattle.reading_state.specs.declared.reading_do.ReadingThen.{ReadingThen}
use Rattle.reading_state.specs.declared.reading_do.ReadingThen.TheVariants as effects
use Rattle.reading_state.specs.Keys.{okuri_of}
use Rattle.reading_state.specs.Puts.{Reading, new_reading, new_abbrev, suffix_reading}
use Rattle.reading_state.specs.Reading.{reading_step}
use Rattle.candidate_state.specs.declared.cands_do.AfterChoose.{AfterChoose}
use Rattle.candidate_state.specs.declared.cands_do.AfterChoose.TheVariants as choices
use Rattle.candidate_state.specs.declared.cands_do.CandsDo.{CandsDo}
use Rattle.candidate_state.specs.declared.cands_do.CandsDo.TheVariants as cands
use Rattle.candidate_state.specs.Picking.{picking_step}
use Rattle.candidate_state.specs.Shown.{Shown}
use Rattle.session_machine.specs.Answered.{answer_notice, learnt_by, says_purged}
use Rattle.session_machine.specs.Converted.{converted, completing}
use Rattle.session_machine.specs.declared.frame.Choice.{Choice}
use Rattle.session_machine.specs.declared.frame.Conversion.{Conversion}
use Rattle.session_machine.specs.declared.frame.FrameState.{FrameState}
use Rattle.session_machine.specs.declared.frame.FrameState.TheVariants as states
use Rattle.session_machine.specs.declared.session_notice.SessionNotice.TheVariants as told
use Rattle.session_machine.specs.declared.frame.Waiting.TheVariants as waits
use Rattle.session_machine.specs.Meanings.{Meaning, becomes}
use Rattle.session_machine.specs.Notes.{opens_note}
use Rattle.session_machine.specs.ReadingParts.{kana_begun}
use Rattle.session_machine.specs.Registrations.{cancelled, registering, returned}
use Rattle.session_machine.specs.Session.{Session, with_state, with_text, with_mode, with_choice, choice_at}
use Rattle.session_machine.specs.Session.{without_chars, shortened, noting, before_key, has_room, with_piece}
use Rattle.session_machine.specs.Session.{with_insertion}

-- Reading state

-- a reading with its okurigana as it is inserted: in the kana of a mode, or in the other
abbrev pub reading_piece : Mode → Reading → Bool → List ℕ
reading_piece mode reading other =
    in_kana_of (if other then other_kana mode else mode) (reading.text ++ kana_begun reading.okuri)

-- what comes behind a reading that was inserted
abbrev pub confirmed_effect : Session → AfterConfirm → Meaning
confirmed_effect session behind.Nothing = becomes session
confirmed_effect session behind.ToAscii = becomes (with_mode session Ascii)
confirmed_effect session behind.ToWide = becomes (with_mode session Wide)
confirmed_effect session behind.OpenReading = becomes (with_state session (states.Reading new_reading))
confirmed_effect session behind.Newline = returned session

-- what it comes to that a reading is confirmed: it is inserted, and stays open where it does not fit
abbrev pub confirmed : Session → Reading → Bool → AfterConfirm → Meaning
confirmed session reading other behind =
    let piece = reading_piece session.frame.mode reading other in
    if has_room session piece then confirmed_effect (with_piece session piece) behind
    else becomes (noting (with_state session (states.Reading reading)) notices.Limit)

-- what a key's effect on an open reading comes to
abbrev pub reading_effect : Session → Reading → ReadingThen → Meaning
reading_effect session reading effects.Stay = becomes (with_state session (states.Reading reading))
reading_effect session reading effects.Convert = converted session reading
reading_effect session reading effects.AskCompletions = completing session reading
reading_effect session reading effects.Drop = becomes session
reading_effect session reading (effects.Confirm other behind) = confirmed session reading other behind

-- what a key comes to where a reading is open
abbrev pub reading_pressed : List Rule → Session → Reading → Key → Meaning
reading_pressed rules session reading key =
    let step = reading_step rules reading key in
    reading_effect (noting session step.done.notice) step.reading step.done.then

-- Plain state

-- a session before what was chosen last: without what was inserted, and with the candidates shown again in their mode
abbrev pub before_choice : Session → Choice → Session
before_choice session choice =
    with_state
    (with_mode (with_text (with_choice session None) (without_chars choice.inserted session.frame.text)) choice.mode)
    (states.Picking choice.conversion)

-- what it comes to that what was learnt is taken back, if anything was
abbrev pub unlearnt : Session → Option Learned → Meaning
unlearnt session None = becomes (record session { notice = told.Undone })
unlearnt session (Some learned) =
    asks (Unlearn learned) (λ answer. becomes (record session { notice = answer_notice answer }))

-- what it comes to that a choice is taken back: its candidates are shown again, and what was learnt is taken back
abbrev pub undone : Session → Option Choice → Meaning
undone session None = becomes (noting session notices.NoUndo)
undone session (Some choice) = unlearnt (before_choice session choice) choice.learned

-- what a key's effect comes to behind its insertion
abbrev pub plain_effect : List Rule → Session → PlainThen → Meaning
plain_effect rules session plain.Stay = becomes session
plain_effect rules session plain.DeleteLast = becomes (shortened session)
plain_effect rules session plain.Newline = returned session
plain_effect rules session (plain.OpenReading None) = becomes (with_state session (states.Reading new_reading))
plain_effect rules session (plain.OpenReading (Some letter)) = reading_pressed rules session new_reading (Char letter)
plain_effect rules session plain.OpenAbbrev = becomes (with_state session (states.Reading new_abbrev))
plain_effect rules session plain.Cancel = becomes (cancelled session)
plain_effect rules session plain.AskUndo =
    undone session (choice_at (byte_len session.frame.text) session.frame.last_choice)

-- a session in the plain state, with its mode and what is pending
abbrev pub with_plain : Session → Plain → Session
with_plain session plain = with_state (with_mode session plain.mode) (states.Plain plain.pending)

-- a session after a key was read in the plain state, with these letters pending, and what came out was inserted; and
-- what else the key does
abbrev pub plain_typed : List Rule → Session → List ℕ → Key → Session × PlainThen
plain_typed rules session pending key =
    let step = plain_step rules (record { mode = session.frame.mode; pending = pending }) key in
    (with_insertion (with_plain session step.plain) step.done.insert, step.done.then)

-- what a key comes to in the plain state, with these letters pending
abbrev pub plain_pressed : List Rule → Session → List ℕ → Key → Meaning
plain_pressed rules session pending key =
    let typed = plain_typed rules session pending key in
    plain_effect rules typed.0 typed.1

-- Candidate state

-- what something comes to that is done with the candidate of a place; where there is none the candidates stay
abbrev pub of_candidate : Session → Conversion → ℕ → (Shown → Meaning) → Meaning
of_candidate session conversion place meaning =
    option_map_or meaning (slice_get conversion.picking.shown place)
    (becomes (with_state session (states.Picking conversion)))

-- what is inserted for a candidate: its text as it is shown, and the okurigana in the kana of a mode
abbrev pub choice_piece : Mode → Reading → Shown → List ℕ
choice_piece mode reading shown = shown.text ++ in_kana_of mode (kana_begun reading.okuri)

-- a session into which a piece was inserted for a candidate, after its learning was answered
abbrev pub after_learning : Session → Conversion → List ℕ → Answer → Session
after_learning session conversion piece answer =
    record (with_choice session (Some (record {
      inserted = length piece;
      end = byte_len session.frame.text;
      mode = session.frame.mode;
      conversion = conversion;
      learned = learnt_by answer;
    }))) { notice = answer_notice answer }

-- what comes behind a choice: nothing, a reading that opens for a suffix, or what a key does in the plain state
abbrev pub choice_effect : List Rule → Session → AfterChoose → Meaning
choice_effect rules session choices.Nothing = becomes session
choice_effect rules session choices.Delete = becomes (shortened session)
choice_effect rules session choices.Newline = returned session
choice_effect rules session choices.OpenSuffix = becomes (with_state session (states.Reading suffix_reading))
choice_effect rules session (choices.Read key) = plain_pressed rules session [] key

-- what it comes to that a candidate is learnt whose piece is inserted: it is learnt as it was found,
-- and then more is done
abbrev pub learning : List Rule → Session → Conversion → List ℕ → AfterChoose → Shown → Meaning
learning rules session conversion piece behind shown =
    asks (Learn session.book shown.key (okuri_of conversion.reading) shown.cand)
    (λ answer. choice_effect rules (after_learning (with_piece session piece) conversion piece answer) behind)

-- what the choice of a candidate comes to: it is inserted and learnt. Where it does not fit the candidates stay
abbrev pub choosing : List Rule → Session → Conversion → AfterChoose → Shown → Meaning
choosing rules session conversion behind shown =
    let piece = choice_piece session.frame.mode conversion.reading shown in
    if has_room session piece then learning rules session conversion piece behind shown
    else becomes (noting (with_state session (states.Picking conversion)) notices.Limit)

-- a session after the purge of a candidate was answered: the candidates are closed where it is found no more,
-- and stay else
abbrev pub after_purge : Session → Conversion → Answer → Session
after_purge session conversion answer =
    record (if says_purged answer then session else with_state session (states.Picking conversion)) {
      notice = answer_notice answer;
    }

-- what the purge of a candidate comes to
abbrev pub purging : Session → Conversion → Shown → Meaning
purging session conversion shown =
    asks (Purge session.book shown.key shown.cand.word) (λ answer. becomes (after_purge session conversion answer))

-- what a key's effect on candidates comes to
abbrev pub picking_effect : List Rule → Session → Conversion → CandsDo → Meaning
picking_effect rules session conversion (cands.Stay notice) =
    becomes (noting (with_state session (states.Picking conversion)) notice)
picking_effect rules session conversion cands.Back = becomes (with_state session (states.Reading conversion.reading))
picking_effect rules session conversion cands.Register = becomes (registering session (waits.Picking conversion))
picking_effect rules session conversion cands.Purge =
    of_candidate session conversion conversion.picking.place (purging session conversion)
picking_effect rules session conversion (cands.Choose place behind) =
    of_candidate session conversion place (choosing rules session conversion behind)

-- what a key comes to that the candidate state reads
abbrev pub picking_read : List Rule → Session → Conversion → Key → Meaning
picking_read rules session conversion key =
    let step = picking_step conversion.picking key in
    picking_effect rules session (record { reading = conversion.reading; picking = step.picking }) step.done

-- what a key comes to where candidates are shown: a note line opens, or the candidate state reads it
abbrev pub picking_pressed : List Rule → Session → Conversion → Key → Meaning
picking_pressed rules session conversion key =
    if opens_note conversion.picking key then becomes (registering session (waits.Note conversion))
    else picking_read rules session conversion key

-- Keys

-- what a key comes to in a state of the frame
abbrev pub state_pressed : List Rule → Session → FrameState → Key → Meaning
state_pressed rules session (states.Plain pending) key = plain_pressed rules session pending key
state_pressed rules session (states.Reading reading) key = reading_pressed rules session reading key
state_pressed rules session (states.Picking conversion) key = picking_pressed rules session conversion key

-- what a key comes to
abbrev pub pressed : List Rule → Session → Key → Meaning
pressed rules session key = state_pressed rules (before_key session) session.frame.state key

-- what keys come to, one after another
abbrev pub all_pressed : List Rule → Session → List Key → Meaning
all_pressed rules session [] = becomes session
all_pressed rules session (key ∷ keys) =
    followed_by (pressed rules session key) (λ after. all_pressed rules after keys)
