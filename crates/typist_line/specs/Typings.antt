-- How a typist's connection stands behind bytes, and what a call leaves of it.
use Rattle.std.specs.Prelude.{◌≡◌, ◌⊎◌, ℕ, Bool, true, false, if◌then◌else◌, Option, None, Some, List, [], ◌∷◌, ◌++◌}
use Rattle.std.specs.Prelude.{encode_utf8_all}
use Rattle.romaji_rules.specs.declared.rule.Rule.{Rule}
use Rattle.skk_calls.specs.Interactions.{ends, Dialog, Leads}
use Rattle.session_machine.specs.Display.{line}
use Rattle.session_machine.specs.Session.{Session, new_session}
use Rattle.typist_line.specs.Conversations.{Conversation, Converses, IsClosed, opened, typed, refusal, OpensNone}
use Rattle.typist_line.specs.declared.typing.Going.{Going}
use Rattle.typist_line.specs.declared.typing.Going.TheVariants.{More}
use Rattle.typist_line.specs.declared.typing.Going.TheVariants as goings
use Rattle.typist_line.specs.declared.typing.Typist.{Typist}
use Rattle.typist_line.specs.declared.typing.Typist.TheVariants.{New, Typing, Over}
use Rattle.typist_line.specs.TypedLines.{Opening, Opens, KeyLine, SaysKeys, AllSay, IsOpen, lines_in}

-- a typist's connection: how it stands, which is none where memory was out, and the bytes of the line that has not
-- ended
pub record TypingView : Type 0 where
  pub typist : Option Typist
  pub begun : List ℕ

-- what was asked and printed on the way to a stand
pub record Talk : Type 0 where
  pub dialog : Dialog
  pub text : List ℕ

-- talk that goes on with other talk
abbrev pub with_talk : Talk → Talk → Talk
with_talk talk more = record { dialog = talk.dialog ++ more.dialog; text = talk.text ++ more.text }

-- a connection was opened by the first line of bytes, and what the others say led to a session
pub record IsTyped (rules : List Rule) (bytes : List ℕ) (talk : Talk) (session : Session) (kept : List ℕ) : Type 0
  where
    pub first : List ℕ
    pub texts : List (List ℕ)
    pub opening : Opening
    pub lines : List KeyLine
    pub lines_are : lines_in bytes ≡ (first ∷ texts, kept)
    pub opens : Opens first opening
    pub say : AllSay texts lines
    pub begun : IsOpen kept
    pub led : Leads (opened rules opening lines false) talk.dialog talk.text (ends (Typing session))

-- a connection was ended by bytes
pub record IsOver (rules : List Rule) (bytes : List ℕ) (talk : Talk) : Type 0 where
  pub meaning : Conversation
  pub converses : Converses rules bytes meaning
  pub led : Leads meaning talk.dialog talk.text (ends Over)
  pub closed : IsClosed bytes

-- bytes, with this talk, led to how a connection stands, with these bytes kept of a line that has not ended
abbrev pub StandsSo : List Rule → List ℕ → Talk → Typist → List ℕ → Type 0
StandsSo rules bytes talk New kept =
    (lines_in bytes ≡ ([], kept)) × IsOpen kept × (talk ≡ record { dialog = []; text = [] })
StandsSo rules bytes talk (Typing session) kept = IsTyped rules bytes talk session kept
StandsSo rules bytes talk Over kept = IsOver rules bytes talk

-- so it stands where it is not out of memory
abbrev pub StandsIf : List Rule → List ℕ → Talk → Option Typist → List ℕ → Type 0
StandsIf rules bytes talk None kept = ⊥
StandsIf rules bytes talk (Some typist) kept = StandsSo rules bytes talk typist kept

-- bytes, with this talk, led to a connection
abbrev pub Stands : List Rule → List ℕ → Talk → TypingView → Type 0
Stands rules bytes talk typing = StandsIf rules bytes talk typing.typist typing.begun

-- bytes of which the first were typed, with this talk, as far as memory was there
pub record Breaks (rules : List Rule) (bytes : List ℕ) (talk : Talk) : Type 0 where
  pub front : List ℕ
  pub rest : List ℕ
  pub bytes_are : bytes ≡ front ++ rest
  pub meaning : Conversation
  pub converses : Converses rules front meaning
  pub to : Conversation
  pub led : Leads meaning talk.dialog talk.text to

-- what is seen of a caller and of what is sent
pub record Heard : Type 0 where
  pub said : Dialog
  pub out : List ℕ

-- a caller and what was sent, by their meanings
abbrev pub heard : {S : Type 0} → (S → Dialog) → S → List ℕ → Heard
heard said caller out = record { said = said caller; out = out }

-- a caller has said the talk more, and its text was sent
abbrev pub Grows : Heard → Heard → Talk → Type 0
Grows before after talk =
    (after.said ≡ before.said ++ talk.dialog) × (after.out ≡ before.out ++ encode_utf8_all talk.text)

-- a connection types bytes: whatever led to it, with these bytes it stands as it is left
pub record Types (rules : List Rule) (bytes : List ℕ) (typing after : TypingView) (heard heard' : Heard) : Type 0 where
  pub talk : Talk
  pub grows : Grows heard heard' talk
  pub stands : (before : List ℕ) (earlier : Talk) → Stands rules before earlier typing
      → Stands rules (before ++ bytes) (with_talk earlier talk) after

-- or memory is out, and the first of them were typed
pub record Stops (rules : List Rule) (bytes : List ℕ) (typing : TypingView) (heard heard' : Heard) : Type 0 where
  pub talk : Talk
  pub grows : Grows heard heard' talk
  pub breaks : (before : List ℕ) (earlier : Talk) → Stands rules before earlier typing
      → Breaks rules (before ++ bytes) (with_talk earlier talk)

-- nothing is read any more
abbrev pub is_over : Typist → Bool
is_over New = false
is_over (Typing session) = false
is_over Over = true

-- what is told of how a connection stands
abbrev pub going_of : Typist → Going
going_of typist = if is_over typist then goings.Over else More

-- Single lines

-- nothing was said and nothing sent
abbrev pub IsSilent : Heard → Heard → Type 0
IsSilent before after = (after.said ≡ before.said) × (after.out ≡ before.out)

-- the first line opens a connection or refuses it, and what is sent
abbrev pub OpensTo : List ℕ → List ℕ → List ℕ → Typist → Type 0
OpensTo text out out' New = ⊥
OpensTo text out out' (Typing session) =
    (opening : Opening) × Opens text opening × (session ≡ new_session opening.typist opening.book)
    × (out' ≡ out ++ encode_utf8_all (line session))
OpensTo text out out' Over = OpensNone text × (out' ≡ out ++ encode_utf8_all refusal)

-- what a further line says is typed: what its keys ask was said, and the reply sent
abbrev pub PressesTo : List Rule → KeyLine → Session → Heard → Heard → Typist → Type 0
PressesTo rules key_line session before after typist =
    (talk : Talk) × (next : Session) × Grows before after talk × (typist ≡ Typing next)
    × Leads (typed rules session (key_line ∷ []) false) talk.dialog talk.text (ends (Typing next))

-- or the first of it was said, and nothing sent
abbrev pub BreaksPressing : List Rule → KeyLine → Session → Heard → Heard → Type 0
BreaksPressing rules key_line session before after =
    (dialog : Dialog) × (to : Conversation) × Grows before after (record { dialog = dialog; text = [] })
    × Leads (typed rules session (key_line ∷ []) false) dialog [] to

-- a further line is typed
abbrev pub TypesKeys : List Rule → List ℕ → Session → Heard → Heard → Typist → Type 0
TypesKeys rules text session before after typist =
    (key_line : KeyLine) × SaysKeys text key_line × PressesTo rules key_line session before after typist

-- or not: nothing was said, or the first of what it asks
abbrev pub BreaksKeys : List Rule → List ℕ → Session → Heard → Heard → Type 0
BreaksKeys rules text session before after =
    IsSilent before after
    ⊎ ((key_line : KeyLine) × SaysKeys text key_line × BreaksPressing rules key_line session before after)

-- a line is typed
abbrev pub TypesLine : List Rule → List ℕ → Typist → Heard → Heard → Typist → Type 0
TypesLine rules text New before after typist = (after.said ≡ before.said) × OpensTo text before.out after.out typist
TypesLine rules text (Typing session) before after typist = TypesKeys rules text session before after typist
TypesLine rules text Over before after typist = (typist ≡ Over) × IsSilent before after

-- or not
abbrev pub BreaksLine : List Rule → List ℕ → Typist → Heard → Heard → Type 0
BreaksLine rules text (Typing session) before after = BreaksKeys rules text session before after
BreaksLine rules text typist before after = IsSilent before after
