-- How a session is shown: its display, its notice, and its line, as they are printed.
use Rattle.std.specs.Prelude.{ℕ, ◌+◌, ◌-◌, Bool, ◌==◌, ◌||◌, if◌then◌else◌, Option, None, Some, List, [], ◌∷◌, ◌++◌}
use Rattle.std.specs.Prelude.{codes, drop, length}
use Rattle.std.specs.Fmt.{decimal}
use Rattle.std.specs.List.{flat_map, repeat}
use Rattle.std.specs.Option.{option_map_or}
use Rattle.skk_text.specs.Characters.{code, carriage_return, tab, backslash}
use Rattle.skk_text.specs.Lines.{line_feed}
use Rattle.skk_text.specs.Modes.{in_kana_of}
use Rattle.skk_text.specs.Text.{last_chars}
use Rattle.skk_text.specs.declared.mode.Mode.{Mode}
use Rattle.skk_text.specs.declared.mode.Mode.TheVariants.{Hira, Kata, Ascii, Wide}
use Rattle.skk_text.specs.declared.notice.Notice.{Notice}
use Rattle.skk_text.specs.declared.notice.Notice.TheVariants as notices
use Rattle.skk_calls.specs.declared.answer.Refusal.{Refusal}
use Rattle.skk_calls.specs.declared.answer.Refusal.TheVariants as refusals
use Rattle.reading_state.specs.Puts.{BegunOkuri, Reading}
use Rattle.candidate_state.specs.Picking.{Picking, is_single, page_size}
use Rattle.candidate_state.specs.Shown.{Shown}
use Rattle.session_machine.specs.declared.frame.Conversion.{Conversion}
use Rattle.session_machine.specs.declared.frame.Frame.{Frame}
use Rattle.session_machine.specs.declared.frame.FrameState.{FrameState}
use Rattle.session_machine.specs.declared.frame.FrameState.TheVariants as states
use Rattle.session_machine.specs.declared.session_notice.SessionNotice.{SessionNotice}
use Rattle.session_machine.specs.declared.session_notice.SessionNotice.TheVariants as told
use Rattle.session_machine.specs.declared.frame.OuterFrame.{OuterFrame}
use Rattle.session_machine.specs.declared.frame.Waiting.{Waiting}
use Rattle.session_machine.specs.declared.frame.Waiting.TheVariants as waits
use Rattle.session_machine.specs.ReadingParts.{kana_begun, registered_text}
use Rattle.session_machine.specs.Registrations.{innermost, waiting_reading}
use Rattle.session_machine.specs.Session.{Session, text_of}

-- Characters

-- a character as it is printed: LF as \n, CR as \r, TAB as \t, and a backslash doubled
abbrev pub escaped : ℕ → List ℕ
escaped c =
    if c == line_feed then backslash ∷ code "n" ∷ []
    else if c == carriage_return then backslash ∷ code "r" ∷ []
    else if c == tab then backslash ∷ code "t" ∷ []
    else if c == backslash then backslash ∷ backslash ∷ []
    else c ∷ []

-- whether a character is printed as an escape
abbrev pub has_escape : ℕ → Bool
has_escape c = c == line_feed || c == carriage_return || c == tab || c == backslash

-- a text as it is printed
abbrev pub printed_form : List ℕ → List ℕ
printed_form text = flat_map escaped text

-- Display

-- how many characters of a frame's text are shown
abbrev pub shown_characters : ℕ
shown_characters = 64

-- an okurigana that was begun as it is shown in the kana of a mode, behind a star
abbrev pub okuri_shown : Mode → Option BegunOkuri → List ℕ
okuri_shown mode None = []
okuri_shown mode (Some begun) = code "*" ∷ in_kana_of mode begun.text

-- an open reading as it is shown: ▽, the reading and its okurigana in the kana of a mode, and what is pending
abbrev pub reading_shown : Mode → Reading → List ℕ
reading_shown mode reading =
    code "▽" ∷ in_kana_of mode reading.text ++ okuri_shown mode reading.okuri ++ reading.pending

-- the question of a purge, where it is asked
abbrev pub question_shown : Bool → List ℕ
question_shown asked = if asked then codes "[削除 Y/N]" else []

-- the text of the first of the candidates from a place on
abbrev pub first_text : List Shown → List ℕ
first_text [] = []
first_text (first ∷ others) = first.text

-- a single candidate as it is shown: ▼, its text, the okurigana in the kana of a mode, and the question of a purge
abbrev pub single_shown : Mode → Conversion → List ℕ
single_shown mode conversion =
    let picking = conversion.picking in
    code "▼" ∷ first_text (drop picking.place picking.shown) ++ in_kana_of mode (kana_begun conversion.reading.okuri)
    ++ question_shown picking.question

-- the letters of a page, in order
abbrev pub page_letters : List ℕ
page_letters = codes "ASDFJKL"

-- candidates behind the letters that choose them, as far as there are both
abbrev pub lettered : List ℕ → List Shown → List ℕ
lettered [] cands = []
lettered (letter ∷ letters) [] = []
lettered (letter ∷ letters) (cand ∷ cands) =
    letter ∷ code ":" ∷ cand.text ++ code " " ∷ lettered letters cands

-- a page as it is shown: ▼, its candidates with their letters, and how many come behind it
abbrev pub page_shown : Picking → List ℕ
page_shown picking =
    codes "▼[" ++ lettered page_letters (drop picking.place picking.shown)
    ++ codes "残り " ++ decimal (length picking.shown - (picking.place + page_size)) ++ codes "]"

-- candidates as they are shown: a single one, or a page
abbrev pub picking_shown : Mode → Conversion → List ℕ
picking_shown mode conversion =
    if is_single conversion.picking.place then single_shown mode conversion else page_shown conversion.picking

-- what is shown of a state, in the kana of a mode: what is pending, the open reading, or the candidates
abbrev pub state_shown : Mode → FrameState → List ℕ
state_shown mode (states.Plain pending) = pending
state_shown mode (states.Reading reading) = reading_shown mode reading
state_shown mode (states.Picking conversion) = picking_shown mode conversion

-- what is shown of a frame: the last characters of its text, and its state
abbrev pub frame_shown : Frame → List ℕ
frame_shown frame = last_chars shown_characters frame.text ++ state_shown frame.mode frame.state

-- the name of a line that is typed inside a frame: a registration, or a note line
abbrev pub prompt_name : Waiting → List ℕ
prompt_name (waits.Note conversion) = codes "注釈登録"
prompt_name waiting = codes "辞書登録"

-- the reading that a word is waited for, as it is learnt, with its okurigana in the kana of a mode
abbrev pub reading_asked : Mode → Reading → List ℕ
reading_asked mode reading = in_kana_of mode (registered_text reading) ++ okuri_shown mode reading.okuri

-- what a line that is typed inside a frame is for: the reading that a word is waited for, or the text of the candidate
-- that a note is
abbrev pub prompt_text : Mode → Waiting → List ℕ
prompt_text mode (waits.Note conversion) = first_text (drop conversion.picking.place conversion.picking.shown)
prompt_text mode waiting = reading_asked mode (waiting_reading waiting)

-- the prompt of a registration or a note line: as many brackets around its name as there are of both, and what it is
-- for
abbrev pub prompt : ℕ → OuterFrame → List ℕ
prompt depth frame =
    repeat depth (codes "[") ++ prompt_name frame.waiting ++ repeat depth (codes "]") ++ codes " "
    ++ prompt_text frame.mode frame.waiting ++ codes ": "

-- the display of a session, as it is printed: the prompt of its innermost registration or note line, and the innermost
-- frame
abbrev pub display : Session → List ℕ
display session =
    let prompted = option_map_or (prompt (length session.outer)) (innermost session.outer) [] in
    printed_form (prompted ++ frame_shown session.frame)

-- Notice

-- the text of a notice of a step
abbrev pub step_text : Notice → List ℕ
step_text notices.Empty = []
step_text notices.Limit = codes "limit"
step_text notices.Reading = codes "reading"
step_text notices.NoMore = codes "no-more"
step_text notices.NoCompletion = codes "no-completion"
step_text notices.NoUndo = codes "no-undo"
step_text notices.NoCandidate = codes "no-candidate"

-- the text of a refusal
abbrev pub refusal_text : Refusal → List ℕ
refusal_text refusals.Memory = codes "refused memory"
refusal_text refusals.Disk = codes "refused disk"
refusal_text (refusals.JournalFull end need limit) =
    codes "refused full " ++ decimal end ++ codes " " ++ decimal need ++ codes " " ++ decimal limit

-- a note behind a semicolon, where there is one
abbrev pub note_text : List ℕ → List ℕ
note_text [] = []
note_text (c ∷ note) = code ";" ∷ c ∷ note

-- the note of the first of the candidates from a place on
abbrev pub first_note : List Shown → List ℕ
first_note [] = []
first_note (first ∷ others) = first.cand.note

-- the note of a state: that of a single candidate
abbrev pub state_note : FrameState → List ℕ
state_note (states.Plain pending) = []
state_note (states.Reading reading) = []
state_note (states.Picking conversion) =
    let picking = conversion.picking in
    if is_single picking.place then note_text (first_note (drop picking.place picking.shown)) else []

-- the text of a notice, where a key that gave none tells the note of a state
abbrev pub notice_text : SessionNotice → FrameState → List ℕ
notice_text (told.Step notices.Empty) state = state_note state
notice_text (told.Step notice) state = step_text notice
notice_text (told.Refused refusal) state = refusal_text refusal
notice_text told.Purged state = codes "purged"
notice_text told.Annotated state = codes "annotated"
notice_text told.Unchanged state = codes "unchanged"
notice_text told.Undone state = codes "undone"
notice_text (told.Overtaken stamp) state = codes "overtaken " ++ decimal stamp
notice_text (told.TooBig length) state = codes "too-big " ++ decimal length
notice_text told.StampsEnd state = codes "stamps-end"
notice_text told.Depth state = codes "depth 8"
notice_text told.BadNote state = codes "note"

-- the notice of a session, as it is printed
abbrev pub notice : Session → List ℕ
notice session = printed_form (notice_text session.notice session.frame.state)

-- Line

-- the indicator of a mode
abbrev pub indicator : Mode → List ℕ
indicator Hira = codes "かな"
indicator Kata = codes "カナ"
indicator Ascii = codes "SKK"
indicator Wide = codes "全英"

-- the line of a session: the indicator of its mode, the display and the notice, with a TAB between two, and LF
abbrev pub line : Session → List ℕ
line session = indicator session.frame.mode ++ tab ∷ display session ++ tab ∷ notice session ++ line_feed ∷ []

-- the whole text of a session, as it is printed
abbrev pub text_printed : Session → List ℕ
text_printed session = printed_form (text_of session)
