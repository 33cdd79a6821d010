-- How a session of a script is printed: its output line, and its closing line.
use Rattle.std.specs.Prelude.{ℕ, List, [], ◌∷◌, ◌++◌}
use Rattle.std.specs.Fmt.{decimal}
use Rattle.skk_text.specs.Characters.{code, tab}
use Rattle.skk_text.specs.Lines.{line_feed}
use Rattle.session_machine.specs.Display.{line, text_printed}
use Rattle.session_machine.specs.Session.{Session}

-- the output line of a session: its number, a TAB, and the session's line
abbrev pub output_line : ℕ → Session → List ℕ
output_line number session = decimal number ++ tab ∷ line session

-- the closing line of a session: its number, `=`, and its whole text
abbrev pub closing_line : ℕ → Session → List ℕ
closing_line number session = decimal number ++ code "=" ∷ text_printed session ++ line_feed ∷ []
