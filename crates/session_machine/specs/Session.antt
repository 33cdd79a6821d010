-- A session: a typist's frames, and the changes that keys make of them.
use Rattle.std.specs.Prelude.{ℕ, ◌+◌, Bool, ◌||◌, ◌==◌, nat_le, nat_lt, if◌then◌else◌, Option, None, Some, List, []}
use Rattle.std.specs.Prelude.{◌∷◌, ◌++◌, ◌-◌, ◌≤◌, length, map, take}
use Rattle.skk_text.specs.Text.{byte_len, without_last}
use Rattle.skk_text.specs.declared.mode.Mode.{Mode}
use Rattle.skk_text.specs.declared.mode.Mode.TheVariants.{Hira}
use Rattle.skk_text.specs.declared.notice.Notice.{Notice}
use Rattle.skk_text.specs.declared.notice.Notice.TheVariants as notices
use Rattle.session_machine.specs.declared.frame.Choice.{Choice}
use Rattle.session_machine.specs.declared.frame.Frame.{Frame}
use Rattle.session_machine.specs.declared.frame.OuterFrame.{OuterFrame}
use Rattle.session_machine.specs.declared.frame.FrameState.{FrameState}
use Rattle.session_machine.specs.declared.frame.FrameState.TheVariants.{Plain}
use Rattle.session_machine.specs.declared.session_notice.SessionNotice.{SessionNotice}
use Rattle.session_machine.specs.declared.session_notice.SessionNotice.TheVariants.{Step}

-- a session: its typist, the book that it learns in, the frame that its keys go to, the frames outside that one with
-- the typist's line first, and the notice of the last key
pub record Session : Type 0 where
  pub typist : ℕ
  pub book : ℕ
  pub frame : Frame
  pub outer : List OuterFrame
  pub notice : SessionNotice

-- a session of a typist may learn in a book: in the shared one, or in the typist's own
abbrev pub may_learn_in : ℕ → ℕ → Bool
may_learn_in typist book = book == 0 || book == typist

-- the most bytes of a frame's text
abbrev pub text_limit : ℕ
text_limit = 1048576

-- a frame's text is within its limit
abbrev pub TextFits : List ℕ → Type 0
TextFits text = byte_len text ≤ text_limit

-- the texts of a session's frames, each inside the one before it
abbrev pub texts_of : Session → List (List ℕ)
texts_of session = map (λ frame. frame.text) session.outer ++ session.frame.text ∷ []

-- a new frame: hiragana mode, an empty text, nothing pending, and nothing chosen
abbrev pub new_frame : Frame
new_frame = record { text = []; mode = Hira; state = Plain []; last_choice = None }

-- the notice of a key that gives none
abbrev pub no_notice : SessionNotice
no_notice = Step notices.Empty

-- a new session of a typist and a book
abbrev pub new_session : ℕ → ℕ → Session
new_session typist book = record { typist = typist; book = book; frame = new_frame; outer = []; notice = no_notice }

-- the text of a session's typist, which is that of the outermost frame
abbrev pub text_among : List OuterFrame → Frame → List ℕ
text_among [] frame = frame.text
text_among (outermost ∷ frames) frame = outermost.text

-- the text of a session
abbrev pub text_of : Session → List ℕ
text_of session = text_among session.outer session.frame

-- a session with another frame in the place of the one that takes the keys
abbrev pub with_frame : Session → Frame → Session
with_frame session frame = record session { frame = frame }

-- a session with another state of its frame
abbrev pub with_state : Session → FrameState → Session
with_state session state = record session { frame = record session.frame { state = state } }

-- a session with another text of its frame
abbrev pub with_text : Session → List ℕ → Session
with_text session text = record session { frame = record session.frame { text = text } }

-- a session with another mode of its frame
abbrev pub with_mode : Session → Mode → Session
with_mode session mode = record session { frame = record session.frame { mode = mode } }

-- a session with another last choice of its frame, or with none
abbrev pub with_choice : Session → Option Choice → Session
with_choice session choice = record session { frame = record session.frame { last_choice = choice } }

-- what was chosen last in a text of so many bytes: it is given up where the text is shorter than it was behind it
abbrev pub choice_within : ℕ → Option Choice → Option Choice
choice_within bytes None = None
choice_within bytes (Some choice) = if nat_lt bytes choice.end then None else Some choice

-- what was chosen last, where the text has as many bytes as it had behind it
abbrev pub choice_at : ℕ → Option Choice → Option Choice
choice_at bytes None = None
choice_at bytes (Some choice) = if bytes == choice.end then Some choice else None

-- a text without so many characters at its end, or empty where it has no more
abbrev pub without_chars : ℕ → List ℕ → List ℕ
without_chars count text = take (length text - count) text

-- a session without the last character of its frame's text, where it has one
abbrev pub shortened : Session → Session
shortened session =
    let text = without_last session.frame.text in
    with_choice (with_text session text) (choice_within (byte_len text) session.frame.last_choice)

-- a session with a notice of a step, where it is one
abbrev pub noting : Session → Notice → Session
noting session notices.Empty = session
noting session notice = record session { notice = Step notice }

-- a session with what an answer tells, where it tells something
abbrev pub telling : Session → SessionNotice → Session
telling session (Step notice) = noting session notice
telling session notice = record session { notice = notice }

-- a session as a key finds it: without a notice, and with the state of its frame taken out, which is plain then
abbrev pub before_key : Session → Session
before_key session = with_state (record session { notice = no_notice }) (Plain [])

-- whether a piece fits behind a text
abbrev pub fits_behind : List ℕ → List ℕ → Bool
fits_behind text piece = nat_le (byte_len text + byte_len piece) text_limit

-- whether a piece fits behind the text of a session's frame
abbrev pub has_room : Session → List ℕ → Bool
has_room session piece = fits_behind session.frame.text piece

-- a session with a piece put at the end of its frame's text
abbrev pub with_piece : Session → List ℕ → Session
with_piece session piece = with_text session (session.frame.text ++ piece)

-- a session with a piece inserted, or with the notice of the limit where it does not fit
abbrev pub with_insertion : Session → List ℕ → Session
with_insertion session piece =
    if has_room session piece then with_piece session piece else noting session notices.Limit
