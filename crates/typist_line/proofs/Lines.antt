-- Lines that are typed, by how a connection stands.
use Rattle.std.proofs.Common.{◌≡◌, ℕ, List, [], ◌++◌, inl, refl, sym, append-nil, encode_utf8_all}
use Rattle.romaji_rules.specs.declared.rule.Rule.{Rule}
use Rattle.skk_calls.specs.Interactions.{Dialog}
use Rattle.session_machine.specs.Session.{Session}
use Rattle.typist_line.specs.declared.typing.Typist.{Typist}
use Rattle.typist_line.specs.declared.typing.Typist.TheVariants.{New, Typing, Over}
use Rattle.typist_line.specs.Conversations.{fault_reply}
use Rattle.typist_line.specs.TypedLines.{SaysKeys, bad}
use Rattle.typist_line.specs.Typings.{Heard, IsSilent, TypesKeys, BreaksLine}
use Rattle.typist_line.proofs.Pressing.{faulty-told}

-- nothing was said of a line
pub silent-break : (rules : List Rule) (text : List ℕ) (typist : Typist) (before after : Heard) → IsSilent before after
    → BreaksLine rules text typist before after
silent-break rules text New before after none = none
silent-break rules text (Typing session) before after none = inl none
silent-break rules text Over before after none = none

-- a line that is no key text is typed where the place of its fault is sent
pub faulty-types : (rules : List Rule) (text : List ℕ) (session : Session) (at : ℕ) (said : Dialog)
    (out out' : List ℕ) → SaysKeys text (bad at) → out' ≡ out ++ encode_utf8_all (fault_reply at)
    → TypesKeys rules text session (record { said = said; out = out }) (record { said = said; out = out' })
    (Typing session)
faulty-types rules text session at said out out' says sent = (
  bad at,
  says,
  (
    record { dialog = []; text = fault_reply at },
    session,
    (sym (append-nil said), sent),
    refl,
    faulty-told rules session at,
  ),
)
