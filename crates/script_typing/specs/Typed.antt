-- What is asked and printed for the lines of a script.
use Rattle.std.specs.Prelude.{ℕ, List, [], ◌∷◌, encode_utf8_all}
use Rattle.std.specs.List.{flat_map}
use Rattle.romaji_rules.specs.declared.rule.Rule.{Rule}
use Rattle.skk_calls.specs.Histories as histories
use Rattle.skk_calls.specs.Interactions.{Interaction, ends, prints, followed_by, printed_alone}
use Rattle.session_machine.specs.Pressed.{all_pressed}
use Rattle.session_machine.specs.Session.{new_session}
use Rattle.script_typing.specs.Printing.{output_line, closing_line}
use Rattle.script_typing.specs.Sessions.{SessionMap, session_or_new, with_session}
use Rattle.key_scripts.specs.declared.line.Line.{Line}
use Rattle.key_scripts.specs.declared.line.Line.TheVariants.{Keys, Opening}

-- the closing lines of sessions, in the order of their numbers
abbrev pub closing_lines : SessionMap → List ℕ
closing_lines sessions = flat_map (λ entry. closing_line entry.0 entry.1) sessions

-- what is asked and printed, with nothing to tell at its end
abbrev pub Asking : Type 0
Asking = Interaction (Unit {0})

-- what lines come to from these sessions on: what their keys ask, an output line behind each key line, and the closing
-- lines
abbrev pub typing : List Rule → SessionMap → List Line → Asking
typing rules sessions [] = prints (closing_lines sessions) (ends tt)
typing rules sessions (Keys number ks ∷ lines) =
    followed_by (all_pressed rules (session_or_new sessions number) ks)
    (λ session. prints (output_line number session) (typing rules (with_session sessions number session) lines))
typing rules sessions (Opening number typist book ∷ lines) =
    typing rules (with_session sessions number (new_session typist book)) lines

-- the bytes printed for the lines of a script where the dictionary of one thread answers from an opening on
abbrev pub typed_alone : histories.Opening → List Rule → List Line → List ℕ
typed_alone opening rules lines =
    encode_utf8_all (printed_alone opening.files opening.state (typing rules [] lines))
