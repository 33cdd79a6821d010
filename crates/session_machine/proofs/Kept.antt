-- What the changes of a session keep, every key keeps; and what it asks is what may be asked of such sessions.
use Rattle.std.proofs.Common.{◌≡◌, ◌==◌, ℕ, Bool, true, false, Option, Some, None, Result, Ok, Err, List}
use Rattle.std.proofs.Common.{[], ◌∷◌, ◌++◌, length, refl, subst, arith, ◌&&◌}
use Rattle.std.specs.Bool.{⊤}
use Rattle.std.proofs.lemmas.Bool.{and_parts}
use Rattle.skk_text.specs.Text.{byte_len}
use Rattle.skk_text.specs.declared.key.Key.{Key}
use Rattle.skk_text.specs.declared.key.Key.TheVariants.{Char}
use Rattle.skk_text.specs.declared.notice.Notice.{Notice}
use Rattle.skk_text.specs.declared.notice.Notice.TheVariants as notices
use Rattle.skk_text.specs.declared.mode.Mode.{Mode}
use Rattle.skk_text.specs.declared.mode.Mode.TheVariants.{Ascii, Wide}
use Rattle.skk_calls.specs.declared.answer.Answer.{Answer}
use Rattle.skk_calls.specs.declared.answer.Answer.TheVariants.{Done, Refused}
use Rattle.skk_calls.specs.declared.answer.Refusal.{Refusal}
use Rattle.skk_calls.specs.declared.answer.Reply.TheVariants as replies
use Rattle.skk_calls.specs.Interactions.{ends, asks, prints, followed_by, Comes, Dialog}
use Rattle.skk_calls.specs.Rows.{Cand, Learned, RowKey, is_word}
use Rattle.skk_calls.specs.declared.call.Call.{Call}
use Rattle.skk_calls.specs.declared.call.Call.TheVariants.{Lookup, Complete, Learn, Purge, Annotate, Unlearn}
use Rattle.skk_calls.specs.declared.part.Part.TheVariants.{Nasi}
use Rattle.dict_laws.specs.OwnBooks.{AsksOnly}
use Rattle.dict_laws.specs.OwnBookLaws.{only_followed}
use Rattle.numeric_entries.specs.Numbers.{numbers_of}
use Rattle.romaji_rules.specs.declared.rule.Rule.{Rule}
use Rattle.kana_input.specs.declared.plain.PlainThen.{PlainThen}
use Rattle.kana_input.specs.declared.plain.PlainThen.TheVariants as plain
use Rattle.kana_input.specs.Plain.{plain_step}
use Rattle.reading_state.specs.declared.reading_do.AfterConfirm.{AfterConfirm}
use Rattle.reading_state.specs.declared.reading_do.AfterConfirm.TheVariants as behind
use Rattle.reading_state.specs.declared.reading_do.ReadingThen.{ReadingThen}
use Rattle.reading_state.specs.declared.reading_do.ReadingThen.TheVariants as effects
use Rattle.reading_state.specs.Keys.{key_of, okuri_of}
use Rattle.reading_state.specs.Puts.{Reading, new_reading, new_abbrev, suffix_reading}
use Rattle.reading_state.specs.Reading.{completed, reading_step}
use Rattle.candidate_state.specs.declared.cands_do.AfterChoose.{AfterChoose}
use Rattle.candidate_state.specs.declared.cands_do.AfterChoose.TheVariants as choices
use Rattle.candidate_state.specs.declared.cands_do.CandsDo.{CandsDo}
use Rattle.candidate_state.specs.declared.cands_do.CandsDo.TheVariants as cands
use Rattle.candidate_state.specs.declared.shown.BothFound.{BothFound}
use Rattle.candidate_state.specs.declared.shown.Found.{Found}
use Rattle.candidate_state.specs.Picking.{picking_step, new_picking}
use Rattle.candidate_state.specs.Shown.{Shown, shown_plain, shown_numbers}
use Rattle.session_machine.specs.declared.frame.Choice.{Choice}
use Rattle.session_machine.specs.declared.frame.Conversion.{Conversion}
use Rattle.session_machine.specs.declared.frame.FrameState.{FrameState}
use Rattle.session_machine.specs.declared.frame.FrameState.TheVariants as states
use Rattle.session_machine.specs.declared.frame.OuterFrame.{OuterFrame}
use Rattle.session_machine.specs.declared.frame.Waiting.{Waiting}
use Rattle.session_machine.specs.declared.frame.Waiting.TheVariants as waits
use Rattle.session_machine.specs.declared.session_notice.SessionNotice.{SessionNotice}
use Rattle.session_machine.specs.declared.session_notice.SessionNotice.TheVariants as told
use Rattle.session_machine.specs.Answered.{answer_notice, learnt_by}
use Rattle.session_machine.specs.Converted.{pick, found_by, key_found, with_found, looked_up, first_word}
use Rattle.session_machine.specs.Converted.{number_looked_up, first_words, filled, both_found, plain_found, converted}
use Rattle.session_machine.specs.Converted.{completions_answered, completing, left_open}
use Rattle.session_machine.specs.ReadingParts.{number_key_of, registered_key}
use Rattle.session_machine.specs.declared.first_words.FirstWords.{FirstWords}
use Rattle.session_machine.specs.declared.first_words.FirstWords.TheVariants.{Words, Stopped}
use Rattle.session_machine.specs.Meanings.{Meaning, becomes}
use Rattle.session_machine.specs.Notes.{annotation, note_fits, noted}
use Rattle.session_machine.specs.Registrations.{annotated, annotating, back_in, beyond, cancelled, depth_limit}
use Rattle.session_machine.specs.Registrations.{ended_in, innermost, line_ended, note_ended, outside, registered}
use Rattle.session_machine.specs.Registrations.{registered_piece, registering, registration, returned, state_noted}
use Rattle.session_machine.specs.Registrations.{waiting_reading, waiting_state, with_word, word_ended}
use Rattle.session_machine.specs.Pressed.{reading_piece, confirmed_effect, confirmed, reading_effect, reading_pressed}
use Rattle.session_machine.specs.Pressed.{before_choice, unlearnt, undone, plain_effect, plain_pressed, of_candidate}
use Rattle.session_machine.specs.Pressed.{choice_piece, after_learning, choice_effect, choosing, purging}
use Rattle.session_machine.specs.Pressed.{picking_effect, picking_pressed, picking_read, state_pressed, pressed}
use Rattle.session_machine.specs.Pressed.{all_pressed}
use Rattle.session_machine.specs.Pressed.{with_plain, learning}
use Rattle.session_machine.specs.Session.{Session, choice_at, fits_behind, has_room, without_chars, with_piece}
use Rattle.session_machine.specs.Session.{with_insertion, noting, before_key, telling, with_state, new_frame}
use Rattle.session_machine.specs.Session.{no_notice, shortened, with_choice, with_mode, with_text}

-- each change that keys make of a session keeps a property of it, where each answer is one that may be given; and each
-- call that they make of such a session may be asked
pub record Keeps (Asked : Call → Type 0) (Given : Answer → Type 0) (Holds : Session → Type 0) : Type 0 where
  pub looks_up : (session : Session) (key : RowKey) (okuri : Option (List ℕ)) → Holds session
      → Asked (Lookup session.typist key okuri)
  pub completes : (session : Session) (prefix : List ℕ) → Holds session → Asked (Complete session.typist prefix)
  pub learns : (session : Session) (key : RowKey) (okuri : Option (List ℕ)) (cand : Cand) → Holds session
      → Asked (Learn session.book key okuri cand)
  pub purges : (session : Session) (key : RowKey) (word : List ℕ) → Holds session
      → Asked (Purge session.book key word)
  pub annotates : (session : Session) (key : RowKey) (cand : Cand) → Holds session
      → Asked (Annotate session.book key cand)
  pub unlearns : (session : Session) (choice : Choice) (learned : Learned) → Holds session
      → session.frame.last_choice ≡ Some choice → choice.learned ≡ Some learned → Asked (Unlearn learned)
  -- a notice, and another state or mode of the frame that takes the keys
  pub noticed : (session : Session) (notice : SessionNotice) → Holds session
      → Holds (record session { notice = notice })
  pub stated : (session : Session) (state : FrameState) → Holds session → Holds (with_state session state)
  pub moded : (session : Session) (mode : Mode) → Holds session → Holds (with_mode session mode)
  -- its text and its last choice
  pub longer : (session : Session) (piece : List ℕ) → has_room session piece ≡ true → Holds session
      → Holds (with_piece session piece)
  pub shorter : (session : Session) → Holds session → Holds (shortened session)
  pub unchosen : (session : Session) (count : ℕ) → Holds session
      → Holds (with_text (with_choice session None) (without_chars count session.frame.text))
  pub chosen : (session : Session) (choice : Choice) (given : Answer) → choice.learned ≡ learnt_by given → Given given
      → Holds session → Holds (with_choice session (Some choice))
  -- registrations and note lines
  pub opened : (session : Session) (waiting : Waiting) → (length session.outer == depth_limit) ≡ false → Holds session
      → Holds (record session { frame = new_frame; outer = session.outer ++ outside session.frame waiting ∷ [] })
  pub closed : (session : Session) (frame : OuterFrame) → innermost session.outer ≡ Some frame → Holds session
      → Holds (back_in session frame)
  pub ended : (session : Session) (frame : OuterFrame) (piece : List ℕ) → innermost session.outer ≡ Some frame
      → fits_behind frame.text piece ≡ true → Holds session
      → Holds (record session { frame = with_word frame piece; outer = beyond session.outer })

module _ {Asked : Call → Type 0} {Given : Answer → Type 0} {Holds : Session → Type 0}
    (keeps : Keeps Asked Given Holds) where
  -- a meaning keeps the property, and asks what may be asked
  abbrev Kept : Meaning → Type 0
  Kept meaning = AsksOnly Asked Given Holds meaning

  noted-kept : (session : Session) (notice : Notice) → Holds session → Holds (noting session notice)
  noted-kept session notices.Empty holds = holds
  noted-kept session notice holds = keeps.noticed session (told.Step notice) holds

  told-kept : (session : Session) (notice : SessionNotice) → Holds session → Holds (telling session notice)
  told-kept session (told.Step notice) holds = noted-kept session notice holds
  told-kept session notice holds = keeps.noticed session notice holds

  inserted-kept : (session : Session) (piece : List ℕ) → Holds session → Holds (with_insertion session piece)
  inserted-kept session piece holds =
      grind (arith, holds, keeps.longer session piece, noted-kept session notices.Limit holds)

  -- a session whose reading stays open, or whose candidates stay
  open-kept : (session : Session) (reading : Reading) (refusal : Option Refusal) → Holds session
      → Holds (left_open session reading refusal)
  open-kept session reading None holds = keeps.stated session (states.Reading reading) holds
  open-kept session reading (Some refusal) holds =
      keeps.noticed (with_state session (states.Reading reading)) (told.Refused refusal)
      (keeps.stated session (states.Reading reading) holds)

  -- Registrations and note lines

  cancelled-kept : (session : Session) → Holds session → Holds (cancelled session)
  cancelled-kept session holds = grind (arith, holds, keeps.closed session)

  registering-kept : (session : Session) (waiting : Waiting) → Holds session → Holds (registering session waiting)
  registering-kept session waiting holds =
      grind (
        arith,
        holds,
        keeps.opened session waiting,
        keeps.noticed (with_state session (waiting_state waiting)) told.Depth
            (keeps.stated session (waiting_state waiting) holds),
      )

  word-kept : (session : Session) (frame : OuterFrame) → innermost session.outer ≡ Some frame → Holds session
      → Kept (word_ended session frame)
  word-kept session frame is holds =
      grind (arith, keeps.closed session frame is holds, learnt, noted-kept session notices.Limit holds)
    where
      word : List ℕ
      word = session.frame.text

      reading : Reading
      reading = waiting_reading frame.waiting

      piece : List ℕ
      piece = registered_piece frame.mode (waiting_reading frame.waiting) session.frame.text

      learnt : (is_word word && fits_behind frame.text piece) ≡ true
          → Kept (asks (registration session.book reading word)
          (λ answer. becomes (registered session frame piece answer)))
      learnt e = (
        keeps.learns session (registered_key reading) (okuri_of reading) (record { word = word; note = [] }) holds,
        λ answer given. told-kept (record session { frame = with_word frame piece; outer = beyond session.outer })
            (answer_notice answer)
            (keeps.ended session frame piece is (and_parts (is_word word) (fits_behind frame.text piece) e).1 holds),
      )

  annotating-kept : (session : Session) (frame : OuterFrame) (shown : Shown)
      → innermost session.outer ≡ Some frame → Holds session → Kept (annotating session frame shown)
  annotating-kept session frame shown is holds =
      grind (arith, asked, noted-kept session notices.Limit holds)
    where
      text : List ℕ
      text = session.frame.text

      cand : Cand
      cand = noted shown.cand text

      asked : note_fits shown.cand text ≡ true
          → Kept (asks (annotation session.book shown.key shown.cand text)
          (λ answer. becomes (annotated session frame cand answer)))
      asked e = (
        keeps.annotates session shown.key cand holds,
        λ answer given. keeps.noticed
            (with_state (back_in session frame) (state_noted frame.waiting cand answer)) (answer_notice answer)
            (keeps.stated (back_in session frame) (state_noted frame.waiting cand answer)
            (keeps.closed session frame is holds)),
      )

  note-kept : (session : Session) (frame : OuterFrame) (conversion : Conversion)
      → innermost session.outer ≡ Some frame → Holds session → Kept (note_ended session frame conversion)
  note-kept session frame conversion is holds =
      grind (
        arith,
        keeps.closed session frame is holds,
        λ (shown : Shown). annotating-kept session frame shown is holds,
        keeps.noticed session told.BadNote holds,
      )

  line-kept : (session : Session) (frame : OuterFrame) (waiting : Waiting) → innermost session.outer ≡ Some frame
      → Holds session → Kept (line_ended session frame waiting)
  line-kept session frame (waits.Note conversion) is holds = note-kept session frame conversion is holds
  line-kept session frame waiting is holds = word-kept session frame is holds

  ended-kept : (session : Session) (frame : OuterFrame) → innermost session.outer ≡ Some frame → Holds session
      → Kept (ended_in session frame)
  ended-kept session frame is holds = line-kept session frame frame.waiting is holds

  returned-kept : (session : Session) → Holds session → Kept (returned session)
  returned-kept session holds =
      grind (
        arith,
        inserted-kept session (10 ∷ []) holds,
        λ (frame : OuterFrame) (is : innermost session.outer ≡ Some frame). ended-kept session frame is holds,
      )

  -- Readings

  after-kept : (session : Session) (after : AfterConfirm) → Holds session → Kept (confirmed_effect session after)
  after-kept session behind.Nothing holds = holds
  after-kept session behind.ToAscii holds = keeps.moded session Ascii holds
  after-kept session behind.ToWide holds = keeps.moded session Wide holds
  after-kept session behind.OpenReading holds = keeps.stated session (states.Reading new_reading) holds
  after-kept session behind.Newline holds = returned-kept session holds

  confirmed-kept : (session : Session) (reading : Reading) (other : Bool) (after : AfterConfirm) → Holds session
      → Kept (confirmed session reading other after)
  confirmed-kept session reading other after holds =
      let piece = reading_piece session.frame.mode reading other in
      grind (
        arith,
        holds,
        keeps.longer session piece,
        after-kept (with_piece session piece) after,
        noted-kept (with_state session (states.Reading reading)) notices.Limit
            (keeps.stated session (states.Reading reading) holds),
      )

  pick-kept : (session : Session) (reading : Reading) (shown : List Shown) → Holds session
      → Kept (pick session reading shown)
  pick-kept session reading shown holds =
      grind (
        arith,
        registering-kept session (waits.Reading reading) holds,
        keeps.stated session (states.Picking (record { reading = reading; picking = new_picking shown })) holds,
      )

  looked-kept : (session : Session) (reading : Reading) (key : RowKey) (behind : Found → Meaning) → Holds session
      → ((found : Found) → Kept (behind found)) → Kept (looked_up session reading key behind)
  looked-kept session reading key behind holds all =
      (keeps.looks_up session key (okuri_of reading) holds, λ answer given. by (found_by answer))
    where
      by : (found : Result (List Cand) (Option Refusal))
          → Kept (with_found session reading behind (key_found key found))
      by (Ok cands) = all (record { key = key; cands = cands })
      by (Err refusal) = open-kept session reading refusal holds

  filled-kept : (session : Session) (reading : Reading) (found : BothFound) (words : FirstWords) → Holds session
      → Kept (filled session reading found words)
  filled-kept session reading found (Words words) holds = pick-kept session reading _ holds
  filled-kept session reading found (Stopped refusal) holds = open-kept session reading refusal holds

  words-kept : (session : Session) (reading : Reading) (found : BothFound) (words numbers : List (List ℕ))
      → Holds session
      → Kept (followed_by (first_words session.typist words numbers) (filled session reading found))
  words-kept session reading found words [] holds = pick-kept session reading _ holds
  words-kept session reading found words (number ∷ numbers) holds = (
    keeps.looks_up session (record { part = Nasi; reading = number }) None holds,
    λ answer given. by (found_by answer) (λ more. words-kept session reading found more numbers holds),
  )
    where
      by : (found_number : Result (List Cand) (Option Refusal))
          → ((more : List (List ℕ))
          → Kept (followed_by (first_words session.typist more numbers) (filled session reading found)))
          → Kept (followed_by (number_looked_up number (λ word.
          first_words session.typist (words ++ word ∷ []) numbers) found_number) (filled session reading found))
      by (Ok cands) rest = rest (words ++ first_word number cands ∷ [])
      by (Err refusal) rest = open-kept session reading refusal holds

  both-kept : (session : Session) (reading : Reading) (found : BothFound) → Holds session
      → Kept (both_found session reading found)
  both-kept session reading found holds =
      grind (
        arith,
        words-kept session reading found [] (numbers_of reading.text) holds,
        pick-kept session reading (shown_numbers found (numbers_of reading.text) (numbers_of reading.text)) holds,
      )

  read-kept : (session : Session) (reading : Reading) (plain : Found) → Holds session
      → Kept (plain_found session reading plain)
  read-kept session reading plain holds =
      grind (
        arith,
        looked-kept session reading (number_key_of reading)
            (λ numbered. both_found session reading (record { plain = plain; numbered = numbered })) holds
            (λ numbered. both-kept session reading (record { plain = plain; numbered = numbered }) holds),
        pick-kept session reading (shown_plain plain) holds,
      )

  converted-kept : (session : Session) (reading : Reading) → Holds session → Kept (converted session reading)
  converted-kept session reading holds =
      looked-kept session reading (key_of reading) (plain_found session reading) holds
      (λ plain. read-kept session reading plain holds)

  completing-kept : (session : Session) (reading : Reading) → Holds session → Kept (completing session reading)
  completing-kept session reading holds =
      (keeps.completes session reading.text holds, λ answer given. by answer)
    where
      by : (answer : Answer) → Kept (completions_answered session reading answer)
      by (Done (replies.Readings readings)) =
          let done = completed reading readings in
          noted-kept (with_state session (states.Reading done.reading)) done.notice
          (keeps.stated session (states.Reading done.reading) holds)
      by (Done reply) = open-kept session reading None holds
      by (Refused refusal) = open-kept session reading (Some refusal) holds

  reading-effect-kept : (session : Session) (reading : Reading) (effect : ReadingThen) → Holds session
      → Kept (reading_effect session reading effect)
  reading-effect-kept session reading effects.Stay holds = keeps.stated session (states.Reading reading) holds
  reading-effect-kept session reading effects.Convert holds = converted-kept session reading holds
  reading-effect-kept session reading effects.AskCompletions holds = completing-kept session reading holds
  reading-effect-kept session reading effects.Drop holds = holds
  reading-effect-kept session reading (effects.Confirm other after) holds =
      confirmed-kept session reading other after holds

  reading-kept : (rules : List Rule) (session : Session) (reading : Reading) (key : Key) → Holds session
      → Kept (reading_pressed rules session reading key)
  reading-kept rules session reading key holds =
      let step = reading_step rules reading key in
      reading-effect-kept (noting session step.done.notice) step.reading step.done.then
      (noted-kept session step.done.notice holds)

  -- The plain state

  before-choice-kept : (session : Session) (choice : Choice) → Holds session → Holds (before_choice session choice)
  before-choice-kept session choice holds =
      let unchosen = with_text (with_choice session None) (without_chars choice.inserted session.frame.text) in
      keeps.stated (with_mode unchosen choice.mode) (states.Picking choice.conversion)
      (keeps.moded unchosen choice.mode (keeps.unchosen session choice.inserted holds))

  choice-undone-kept : (session : Session) (choice : Choice) → session.frame.last_choice ≡ Some choice
      → Holds session → Kept (unlearnt (before_choice session choice) choice.learned)
  choice-undone-kept session choice is holds = by choice.learned refl
    where
      by : (learned : Option Learned) → choice.learned ≡ learned
          → Kept (unlearnt (before_choice session choice) learned)
      by None e = keeps.noticed (before_choice session choice) told.Undone (before-choice-kept session choice holds)
      by (Some learned) e = (
        keeps.unlearns session choice learned holds is e,
        λ answer given. keeps.noticed (before_choice session choice) (answer_notice answer)
            (before-choice-kept session choice holds),
      )

  undone-kept : (session : Session) (bytes : ℕ) → Holds session
      → Kept (undone session (choice_at bytes session.frame.last_choice))
  undone-kept session bytes holds =
      grind (
        arith,
        λ (choice : Choice) (is : session.frame.last_choice ≡ Some choice). choice-undone-kept session choice is holds,
        noted-kept session notices.NoUndo holds,
      )

  plain-effect-kept : (rules : List Rule) (session : Session) (effect : PlainThen) → Holds session
      → Kept (plain_effect rules session effect)
  plain-effect-kept rules session plain.Stay holds = holds
  plain-effect-kept rules session plain.DeleteLast holds = keeps.shorter session holds
  plain-effect-kept rules session plain.Newline holds = returned-kept session holds
  plain-effect-kept rules session (plain.OpenReading None) holds =
      keeps.stated session (states.Reading new_reading) holds
  plain-effect-kept rules session (plain.OpenReading (Some letter)) holds =
      reading-kept rules session new_reading (Char letter) holds
  plain-effect-kept rules session plain.OpenAbbrev holds = keeps.stated session (states.Reading new_abbrev) holds
  plain-effect-kept rules session plain.Cancel holds = cancelled-kept session holds
  plain-effect-kept rules session plain.AskUndo holds = undone-kept session (byte_len session.frame.text) holds

  plain-kept : (rules : List Rule) (session : Session) (pending : List ℕ) (key : Key) → Holds session
      → Kept (plain_pressed rules session pending key)
  plain-kept rules session pending key holds =
      let step = plain_step rules (record { mode = session.frame.mode; pending = pending }) key in
      let moded = with_mode session step.plain.mode in
      plain-effect-kept rules (with_insertion (with_plain session step.plain) step.done.insert) step.done.then
      (inserted-kept (with_plain session step.plain) step.done.insert
      (keeps.stated moded (states.Plain step.plain.pending) (keeps.moded session step.plain.mode holds)))

  -- Candidates

  choice-effect-kept : (rules : List Rule) (session : Session) (effect : AfterChoose) → Holds session
      → Kept (choice_effect rules session effect)
  choice-effect-kept rules session choices.Nothing holds = holds
  choice-effect-kept rules session choices.Delete holds = keeps.shorter session holds
  choice-effect-kept rules session choices.Newline holds = returned-kept session holds
  choice-effect-kept rules session choices.OpenSuffix holds =
      keeps.stated session (states.Reading suffix_reading) holds
  choice-effect-kept rules session (choices.Read key) holds = plain-kept rules session [] key holds

  learning-kept : (rules : List Rule) (session : Session) (conversion : Conversion) (piece : List ℕ)
      (effect : AfterChoose) (shown : Shown) → has_room session piece ≡ true → Holds session
      → Kept (learning rules session conversion piece effect shown)
  learning-kept rules session conversion piece effect shown room holds = (
    keeps.learns session shown.key (okuri_of conversion.reading) shown.cand holds,
    λ answer given. choice-effect-kept rules (after_learning longer conversion piece answer) effect
        (keeps.noticed (with_choice longer (Some (choice answer))) (answer_notice answer)
        (keeps.chosen longer (choice answer) answer refl given (keeps.longer session piece room holds))),
  )
    where
      longer : Session
      longer = with_piece session piece

      choice : Answer → Choice
      choice answer = record {
        inserted = length piece;
        end = byte_len longer.frame.text;
        mode = longer.frame.mode;
        conversion = conversion;
        learned = learnt_by answer;
      }

  choosing-kept : (rules : List Rule) (session : Session) (conversion : Conversion) (effect : AfterChoose)
      (shown : Shown) → Holds session → Kept (choosing rules session conversion effect shown)
  choosing-kept rules session conversion effect shown holds =
      let piece = choice_piece session.frame.mode conversion.reading shown in
      grind (
        arith,
        λ (room : has_room session piece ≡ true). learning-kept rules session conversion piece effect shown room holds,
        noted-kept (with_state session (states.Picking conversion)) notices.Limit
            (keeps.stated session (states.Picking conversion) holds),
      )

  purging-kept : (session : Session) (conversion : Conversion) (shown : Shown) → Holds session
      → Kept (purging session conversion shown)
  purging-kept session conversion shown holds = (
    keeps.purges session shown.key shown.cand.word holds,
    λ answer given. grind (
      arith,
      keeps.noticed session (answer_notice answer) holds,
      keeps.noticed (with_state session (states.Picking conversion)) (answer_notice answer)
          (keeps.stated session (states.Picking conversion) holds),
    ),
  )

  candidate-kept : (session : Session) (conversion : Conversion) (place : ℕ) (meaning : Shown → Meaning)
      → Holds session → ((shown : Shown) → Kept (meaning shown)) → Kept (of_candidate session conversion place meaning)
  candidate-kept session conversion place meaning holds kept =
      grind (arith, keeps.stated session (states.Picking conversion) holds, kept)

  picking-effect-kept : (rules : List Rule) (session : Session) (conversion : Conversion) (effect : CandsDo)
      → Holds session → Kept (picking_effect rules session conversion effect)
  picking-effect-kept rules session conversion (cands.Stay notice) holds =
      noted-kept (with_state session (states.Picking conversion)) notice
      (keeps.stated session (states.Picking conversion) holds)
  picking-effect-kept rules session conversion cands.Back holds =
      keeps.stated session (states.Reading conversion.reading) holds
  picking-effect-kept rules session conversion cands.Register holds =
      registering-kept session (waits.Picking conversion) holds
  picking-effect-kept rules session conversion cands.Purge holds =
      candidate-kept session conversion conversion.picking.place (purging session conversion) holds
      (λ shown. purging-kept session conversion shown holds)
  picking-effect-kept rules session conversion (cands.Choose place effect) holds =
      candidate-kept session conversion place (choosing rules session conversion effect) holds
      (λ shown. choosing-kept rules session conversion effect shown holds)

  picking-read-kept : (rules : List Rule) (session : Session) (conversion : Conversion) (key : Key) → Holds session
      → Kept (picking_read rules session conversion key)
  picking-read-kept rules session conversion key holds =
      let step = picking_step conversion.picking key in
      picking-effect-kept rules session (record { reading = conversion.reading; picking = step.picking }) step.done
      holds

  picking-kept : (rules : List Rule) (session : Session) (conversion : Conversion) (key : Key) → Holds session
      → Kept (picking_pressed rules session conversion key)
  picking-kept rules session conversion key holds =
      grind (
        arith,
        registering-kept session (waits.Note conversion) holds,
        picking-read-kept rules session conversion key holds,
      )

  -- Keys

  state-kept : (rules : List Rule) (session : Session) (state : FrameState) (key : Key) → Holds session
      → Kept (state_pressed rules session state key)
  state-kept rules session (states.Plain pending) key holds = plain-kept rules session pending key holds
  state-kept rules session (states.Reading reading) key holds = reading-kept rules session reading key holds
  state-kept rules session (states.Picking conversion) key holds = picking-kept rules session conversion key holds

  -- whatever key is pressed, and however it is answered
  pub pressed-kept : (rules : List Rule) (session : Session) (key : Key) → Holds session
      → Kept (pressed rules session key)
  pressed-kept rules session key holds =
      state-kept rules (before_key session) session.frame.state key
      (keeps.stated (record session { notice = no_notice }) (states.Plain []) (keeps.noticed session no_notice holds))

  -- and whatever keys are, one after another
  pub all-kept : (rules : List Rule) (session : Session) (keys : List Key) → Holds session
      → Kept (all_pressed rules session keys)
  all-kept rules session [] holds = holds
  all-kept rules session (key ∷ keys) holds =
      only_followed Asked Given Holds Holds (pressed rules session key) (λ after. all_pressed rules after keys)
      (pressed-kept rules session key holds) (λ after kept. all-kept rules after keys kept)

-- so holds what an end keeps that comes by any answers
pub comes-kept : (Holds : Session → Type 0) (meaning : Meaning) (dialog : Dialog) (session : Session)
    → AsksOnly (λ call. ⊤) (λ given. ⊤) Holds meaning → Comes meaning dialog session → Holds session
comes-kept Holds (ends end) [] session kept same = subst Holds same kept
comes-kept Holds (ends end) (pair ∷ dialog) session kept comes = absurd comes
comes-kept Holds (asks call next) [] session kept comes = absurd comes
comes-kept Holds (asks call next) (pair ∷ dialog) session kept comes =
    comes-kept Holds (next pair.1) dialog session (kept.1 pair.1 tt) comes.1
comes-kept Holds (prints text rest) [] session kept comes = absurd comes
comes-kept Holds (prints text rest) (pair ∷ dialog) session kept comes = absurd comes
