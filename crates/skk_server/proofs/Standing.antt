-- How a connection goes on, whoever it is of.
use Rattle.std.proofs.Common.{◌≡◌, ◌<◌, ℕ, ◌==◌, true, false, Some, List, [], ◌∷◌, ◌++◌}
use Rattle.std.proofs.Common.{length, refl, sym, ap, ◌∙◌, subst, arith, append-nil, append_assoc, lit≤}
use Rattle.std.proofs.lemmas.Bool.{false≢true, eqb-true}
use Rattle.std.specs.Option.{is_some}
use Rattle.skk_text.specs.Characters.{code}
use Rattle.romaji_rules.specs.declared.rule.Rule.{Rule}
use Rattle.skk_outside.specs.Written.{IsPrefix}
use Rattle.skk_calls.specs.Interactions.{ends, Dialog, here}
use Rattle.skkserv_proto.specs.Feeding.{Feeding, Fed}
use Rattle.typist_line.specs.declared.typing.Going.{Going}
use Rattle.typist_line.specs.declared.typing.Going.TheVariants.{More, Over}
use Rattle.typist_line.specs.declared.typing.Typist.TheVariants as stands
use Rattle.typist_line.specs.Typings.{TypingView, Heard}
use Rattle.skk_server.specs.declared.talk.Talk.{Talk}
use Rattle.skk_server.specs.declared.talk.Talk.TheVariants.{New, Client, Typist as TypistTalk}
use Rattle.skk_server.specs.Connections.{more, Stand, is_typist, client, Means, MeansOf}
use Rattle.skk_server.specs.Ends.{AnswersAll, AnswersSome}
use Rattle.skk_server.specs.Turns.{Standing, Follows, StandsAt, Begins, AnswersOf, BreaksOf, AnswersBytes, BreaksBytes}
use Rattle.skk_server.specs.Turns.{ClientStands, TypistStands}
use Rattle.skk_server.proofs.Fronts.{FrontsFirst, answers-some}
use Rattle.skk_server.proofs.Requests.{nothing-asked, client-all, client-by, client-new}
use Rattle.skk_server.proofs.Typists.{LeadsThere, typist-all, first_of, typing-new}

-- bytes that do not begin with `T` are a client's
means-client : (rules : List Rule) (bytes behind : List ℕ) (byte : ℕ) → bytes ≡ byte ∷ behind
    → (byte == code "T") ≡ false → Means rules bytes (client bytes)
means-client rules bytes behind byte e other =
    subst (λ (all : List ℕ). MeansOf (is_typist all) rules bytes (client bytes)) (sym e)
    (subst (λ b. MeansOf b rules bytes (client bytes)) (sym other) refl)

-- and so are their fronts
means-front-client : (rules : List Rule) (front rest behind : List ℕ) (byte : ℕ) → front ++ rest ≡ byte ∷ behind
    → (byte == code "T") ≡ false → Means rules front (client front)
means-front-client rules [] rest behind byte e other = refl
means-front-client rules (first ∷ bytes) rest behind byte e other =
    means-client rules (first ∷ bytes) bytes byte (ap (λ b. b ∷ bytes) (ap (first_of first) e)) other

-- no byte comes to nothing
pub nothing-means : (rules : List Rule) → AnswersAll rules [] [] [] more
nothing-means rules = (
  client [],
  refl,
  client-by [] [] false [] [] (ends more) nothing-asked.0 (ap is_some nothing-asked.1) (here (ends more)),
)

-- a connection that goes on has answered all
pub answers-all : (rules : List Rule) (talk : Talk) (bytes : List ℕ) (dialog : Dialog) (sent : List ℕ) → LeadsThere
    → StandsAt rules talk bytes dialog sent → AnswersAll rules bytes dialog sent more
answers-all rules New bytes dialog sent there (suits, (no_byte, no_call, none)) =
    subst (λ (b : List ℕ). AnswersAll rules b dialog sent more) (sym no_byte)
    (subst (λ (d : Dialog). AnswersAll rules [] d sent more) (sym no_call)
    (subst (λ (s : List ℕ). AnswersAll rules [] [] s more) (sym none) (nothing-means rules)))
answers-all rules (Client feeder) bytes dialog sent there ((byte, behind, e, other), goes) = (
  client bytes,
  means-client rules bytes behind byte e other,
  client-all bytes dialog sent feeder goes,
)
answers-all rules (TypistTalk typing) bytes dialog sent there ((behind, e), goes) =
    typist-all rules bytes behind dialog sent typing there e goes

-- what was answered whole was answered in part, also where not all of it was sent
pub all-some : (rules : List Rule) (bytes : List ℕ) (dialog : Dialog) (sent replies : List ℕ) (stand : Stand)
    → FrontsFirst → AnswersAll rules bytes dialog replies stand → IsPrefix sent replies
    → AnswersSome rules bytes dialog sent
all-some rules bytes dialog sent replies stand fronts all begun =
    answers-some rules bytes bytes [] dialog sent replies all.0 (ends stand) fronts (sym (append-nil bytes)) all.1
    all.2 begun

-- and where more bytes came
pub some-wider : (rules : List Rule) (bytes later : List ℕ) (dialog : Dialog) (sent : List ℕ) → FrontsFirst
    → AnswersSome rules bytes dialog sent → AnswersSome rules (bytes ++ later) dialog sent
some-wider rules bytes later dialog sent fronts some =
    answers-some rules (bytes ++ later) some.front (some.rest ++ later) dialog sent some.replies some.exchange some.to
    fronts (ap (λ b. b ++ later) some.bytes_are ∙ append_assoc some.front some.rest later) some.means some.led
    some.begun

-- and where less was sent
pub some-less : (rules : List Rule) (bytes : List ℕ) (dialog : Dialog) (sent less : List ℕ)
    → AnswersSome rules bytes dialog sent → IsPrefix less sent → AnswersSome rules bytes dialog less
some-less rules bytes dialog sent less some (rest, e) =
    record {
      front = some.front;
      rest = some.rest;
      bytes_are = some.bytes_are;
      exchange = some.exchange;
      means = some.means;
      replies = some.replies;
      to = some.to;
      led = some.led;
      begun = (
        rest ++ some.begun.0,
        some.begun.1 ∙ ap (λ s. s ++ some.begun.0) e ∙ append_assoc less rest some.begun.0,
      );
      first_of_all = some.first_of_all;
    }

-- what was sent before is sent, and then the first of more
pub prefix-behind : (known sent less : List ℕ) → IsPrefix less sent → IsPrefix (known ++ less) (known ++ sent)
prefix-behind known sent less (rest, e) = (rest, ap (λ s. known ++ s) e ∙ sym (append_assoc known less rest))

-- Beginnings

-- it is known whose a connection is that was begun before
pub begun-client : (piece : List ℕ) (feeder : Feeding) → Begins piece (Client feeder) (Client feeder)
begun-client piece feeder rules bytes dialog sent ((byte, behind, e, other), goes) =
    ((byte, behind ++ piece, ap (λ b. b ++ piece) e, other), goes)

pub begun-typist : (piece : List ℕ) (typing : TypingView) → Begins piece (TypistTalk typing) (TypistTalk typing)
begun-typist piece typing rules bytes dialog sent ((behind, e), goes) =
    ((behind ++ piece, ap (λ b. b ++ piece) e), goes)

-- and of one that begins
pub begins-none : Begins [] New New
begins-none rules bytes dialog sent (suits, goes) = (append-nil bytes ∙ suits, goes)

pub begins-client : (piece : List ℕ) (feeder : Feeding) → Fed [] feeder → is_typist piece ≡ false
    → 0 < length piece → Begins piece New (Client feeder)
begins-client [] feeder fed other some rules bytes dialog sent at = absurd (omega (arith, some))
begins-client (byte ∷ behind) feeder fed other some rules bytes dialog sent (suits, (no_byte, no_call, none)) = (
  (byte, behind, ap (λ b. b ++ byte ∷ behind) no_byte, other),
  subst (λ (b : List ℕ). ClientStands feeder b dialog sent) (sym no_byte)
      (subst (λ (d : Dialog). ClientStands feeder [] d sent) (sym no_call)
      (subst (λ (s : List ℕ). ClientStands feeder [] [] s) (sym none) (client-new feeder fed))),
)

pub begins-typist : (piece : List ℕ) (typing : TypingView) → is_typist piece ≡ true
    → typing ≡ record { typist = Some stands.New; begun = [] } → Begins piece New (TypistTalk typing)
begins-typist [] typing is new rules bytes dialog sent at = absurd (false≢true is)
begins-typist (byte ∷ behind) typing is new rules bytes dialog sent (suits, (no_byte, no_call, none)) = (
  (behind, ap (λ b. b ++ byte ∷ behind) no_byte ∙ ap (λ b. b ∷ behind) (eqb-true byte (code "T") is)),
  subst (λ (b : List ℕ). TypistStands rules typing b dialog sent) (sym no_byte)
      (subst (λ (d : Dialog). TypistStands rules typing [] d sent) (sym no_call)
      (subst (λ (t : TypingView). TypistStands rules t [] [] sent) (sym new)
      ([], stands.New, refl, refl, (typing-new, (refl, lit≤ tt), refl), none))),
)

-- Answers behind what is known of whose it is

-- the next bytes carry it on from whatever it stood as
pub follows-from : (Stood Stood' Stands : Standing) (piece : List ℕ) (before after : Heard)
    → ((bytes : List ℕ) (known : Dialog) (known_sent : List ℕ) → Stood bytes known known_sent
    → Stood' bytes known known_sent)
    → Follows Stood' Stands piece before after → Follows Stood Stands piece before after
follows-from Stood Stood' Stands piece before after from (dialog, sent, adds, carries) = (
  dialog,
  sent,
  adds,
  λ bytes known known_sent at. carries bytes known known_sent (from bytes known known_sent at),
)

-- nobody's connection goes on as it is
pub answers-nobody : (rules : List Rule) (piece : List ℕ) (heard : Heard)
    → AnswersOf rules piece New New heard heard More
answers-nobody rules piece heard = (
  [],
  [],
  (sym (append-nil heard.said), sym (append-nil heard.out)),
  λ bytes known known_sent begun.
      let (suits, goes) = begun in (suits, (suits, append-nil known ∙ goes.1, append-nil known_sent ∙ goes.2)),
)

-- a client's
pub answers-client : (rules : List Rule) (piece : List ℕ) (feeder feeder' : Feeding) (before after : Heard)
    (going : Going) → AnswersBytes piece feeder feeder' before after going
    → AnswersOf rules piece (Client feeder) (Client feeder') before after going
answers-client rules piece feeder feeder' before after More (dialog, sent, adds, goes) =
    (dialog, sent, adds, λ bytes known known_sent begun. (begun.0, goes bytes known known_sent begun.1))
answers-client rules piece feeder feeder' before after Over (dialog, sent, adds, goes) = (
  dialog,
  sent,
  adds,
  λ bytes known known_sent begun later.
      let (suits, at) = begun in (
        client ((bytes ++ piece) ++ later),
        means-client rules ((bytes ++ piece) ++ later) (suits.1 ++ later) suits.0 (ap (λ b. b ++ later) suits.2)
            suits.3,
        goes bytes known known_sent at later,
      ),
)

pub breaks-client : (rules : List Rule) (piece : List ℕ) (feeder : Feeding) (before after : Heard) → FrontsFirst
    → BreaksBytes piece feeder before after → BreaksOf rules piece (Client feeder) before after
breaks-client rules piece feeder before after fronts (dialog, sent, adds, breaks) = (
  dialog,
  sent,
  adds,
  λ bytes known known_sent begun.
      let (suits, at) = begun in
      let (front, rest, e, to, led) = breaks bytes known known_sent at in
      answers-some rules (bytes ++ piece) front rest (known ++ dialog) (known_sent ++ sent) (known_sent ++ sent)
      (client front) to fronts e (means-front-client rules front rest suits.1 suits.0 (sym e ∙ suits.2) suits.3) led
      ([], sym (append-nil (known_sent ++ sent))),
)
