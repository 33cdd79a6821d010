-- What the lines of a typist's connection ask and print.
use Rattle.std.specs.Prelude.{◌≡◌, ◌⊎◌, ℕ, Bool, true, false, List, [], ◌∷◌, ◌++◌, codes}
use Rattle.std.specs.Fmt.{decimal}
use Rattle.skk_text.specs.Lines.{line_feed}
use Rattle.romaji_rules.specs.declared.rule.Rule.{Rule}
use Rattle.skk_calls.specs.Interactions.{Interaction, ends, prints, followed_by}
use Rattle.session_machine.specs.Display.{line}
use Rattle.session_machine.specs.Pressed.{all_pressed}
use Rattle.session_machine.specs.Session.{Session, new_session}
use Rattle.typist_line.specs.declared.typing.Typist.{Typist}
use Rattle.typist_line.specs.declared.typing.Typist.TheVariants.{New, Typing, Over}
use Rattle.typist_line.specs.TypedLines.{Opening, Opens, KeyLine, keys, bad, AllSay, lines_in, is_too_long}

-- what a connection asks and prints, and how it then stands
abbrev pub Conversation : Type 0
Conversation = Interaction Typist

-- what is sent where a connection is refused
abbrev pub refusal : List ℕ
refusal = codes "0" ++ line_feed ∷ []

-- a connection is refused, and over
abbrev pub refused : Conversation
refused = prints refusal (ends Over)

-- what is sent for a line that is no key text: `?`, the place and LF
abbrev pub fault_reply : ℕ → List ℕ
fault_reply at = codes "?" ++ decimal at ++ line_feed ∷ []

-- behind the last line: a line that is too long is refused
abbrev pub closing : Bool → Typist → Conversation
closing true typist = refused
closing false typist = ends typist

-- what further lines come to for a session: what their keys ask, and the session's line behind each; a line that is no
-- key text changes nothing
abbrev pub typed : List Rule → Session → List KeyLine → Bool → Conversation
typed rules session [] long = closing long (Typing session)
typed rules session (keys ks ∷ lines) long =
    followed_by (all_pressed rules session ks) (λ after. prints (line after) (typed rules after lines long))
typed rules session (bad at ∷ lines) long = prints (fault_reply at) (typed rules session lines long)

-- what a connection comes to behind its first line: the line of a new session, and then the further lines
abbrev pub opened : List Rule → Opening → List KeyLine → Bool → Conversation
opened rules opening lines long =
    prints (line (new_session opening.typist opening.book))
    (typed rules (new_session opening.typist opening.book) lines long)

-- no opening is spelled by a text
abbrev pub OpensNone : List ℕ → Type 0
OpensNone text = (opening : Opening) → ¬ Opens text opening

-- what texts of lines come to, and whether a line that is too long stands behind them: nothing without a line; where
-- the first opens the connection, what the others say; and else it is refused
abbrev pub Means : List Rule → List (List ℕ) → Bool → Conversation → Type 0
Means rules [] long meaning = meaning ≡ closing long New
Means rules (first ∷ texts) long meaning =
    (OpensNone first × (meaning ≡ refused))
    ⊎ ((opening : Opening) × (lines : List KeyLine) × Opens first opening × AllSay texts lines
    × (meaning ≡ opened rules opening lines long))

-- what the bytes of a connection come to
abbrev pub Converses : List Rule → List ℕ → Conversation → Type 0
Converses rules bytes meaning = Means rules (lines_in bytes).0 (is_too_long (lines_in bytes).1) meaning

-- a connection is over: its first line opens none, or a line is too long
abbrev pub Closes : List (List ℕ) → Bool → Type 0
Closes [] long = long ≡ true
Closes (first ∷ texts) long = OpensNone first ⊎ (long ≡ true)

-- the bytes of a connection end it
abbrev pub IsClosed : List ℕ → Type 0
IsClosed bytes = Closes (lines_in bytes).0 (is_too_long (lines_in bytes).1)
