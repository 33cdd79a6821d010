-- What a line does in its session, and what the playing of lines leaves.
use Rattle.std.specs.Prelude.{◌≡◌, ℕ, Result, Ok, Err, List, [], ◌++◌, OnOk}
use Rattle.romaji_rules.specs.declared.rule.Rule.{Rule}
use Rattle.skk_text.specs.declared.memory.Memory.{Memory}
use Rattle.skk_calls.specs.Interactions.{Interaction, Dialog, ends}
use Rattle.skk_calls.specs.Runs.{Runs, at, anywhere}
use Rattle.key_scripts.specs.Script.{session_of}
use Rattle.key_scripts.specs.declared.line.Line.{Line}
use Rattle.key_scripts.specs.declared.line.Line.TheVariants.{Keys, Opening}
use Rattle.session_machine.specs.Pressed.{all_pressed}
use Rattle.session_machine.specs.Said.{Says, Spoken, after as session_after}
use Rattle.session_machine.specs.Session.{Session, new_session}
use Rattle.script_typing.specs.Playing.{playing}
use Rattle.script_typing.specs.Printing.{output_line}
use Rattle.script_typing.specs.Sessions.{SessionMap, session_or_new, with_session}

-- what a line asks in its session, and the session that it ends with: its keys are pressed, or it is opened anew
abbrev pub line_played : List Rule → Session → Line → Interaction Session
line_played rules session (Keys number ks) = all_pressed rules session ks
line_played rules session (Opening number typist book) = ends (new_session typist book)

-- the text that it prints, behind which its session is this: keys an output line, and an opening line none
abbrev pub line_printed : Line → Session → List ℕ
line_printed (Keys number ks) session = output_line number session
line_printed (Opening number typist book) session = []

-- what the playing of a line leaves: it was played in the session that it names, as far as memory was there, and where
-- it was to its end that session is in its place
pub record PlaysLine (rules : List Rule) (line : Line) (ended : Result (Unit {0}) Memory)
    (sessions sessions' : SessionMap) (before after : Spoken) : Type 0 where
  pub session : Session
  pub says : Says (line_played rules (session_or_new sessions (session_of line)) line) (session_after ended session)
      before after
  pub put : OnOk ended (sessions' ≡ with_session sessions (session_of line) session)

-- an interaction came to this place where something is done, and to some place where it is not
abbrev pub at_if_done : {E S I : Type 0} → Result (Unit {0}) E → (I → Interaction S) → I → Interaction S → Type 0
at_if_done (Ok done) place = at place
at_if_done (Err fault) place = anywhere

-- what lines mean from sessions on ran on, whatever stands behind them: where they are done it came to what that means
-- from other sessions on
abbrev pub RunsThrough : {E T : Type 0} → (SessionMap → List Line → Interaction T) → List Line → Result (Unit {0}) E
    → SessionMap → SessionMap → Dialog → Dialog → (List ℕ → Type 0) → Type 0
RunsThrough meaning lines ended sessions sessions' said said' Put =
    Runs (λ behind. meaning sessions (lines ++ behind)) (at_if_done ended (λ behind. meaning sessions' behind))
    said said' Put

-- what the playing of lines leaves: all that they ask was said, and these are the sessions behind them, or where memory
-- is out the first of it
abbrev pub PlaysLines : List Rule → List Line → Result (Unit {0}) Memory → SessionMap → SessionMap → Dialog → Dialog
    → Type 0
PlaysLines rules lines ended sessions sessions' said said' =
    RunsThrough (playing rules) lines ended sessions sessions' said said' (λ text. text ≡ [])
