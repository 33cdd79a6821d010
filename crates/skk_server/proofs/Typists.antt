-- How a typist's connection goes on.
use Rattle.std.proofs.Common.{◌≡◌, ℕ, Bool, true, false, Option, Some, List, [], ◌∷◌, ◌++◌, refl, sym, ap, ◌∙◌}
use Rattle.std.proofs.Common.{Result, Ok, Err, OnOk, IfOk, if◌then◌else◌, subst, append-nil, encode_utf8_all}
use Rattle.std.proofs.lemmas.Bool.{false≢true}
use Rattle.std.proofs.lemmas.Str.{encodes-append}
use Rattle.skk_text.specs.Characters.{code}
use Rattle.skk_text.specs.declared.memory.Memory.{Memory}
use Rattle.exact_readers.specs.Formats.{taken}
use Rattle.romaji_rules.specs.declared.rule.Rule.{Rule}
use Rattle.skk_calls.specs.Interactions.{ends, prints, Dialog, Leads, here, asking, printing}
use Rattle.typist_line.specs.declared.typing.Going.{Going}
use Rattle.typist_line.specs.declared.typing.Going.TheVariants.{More, Over}
use Rattle.typist_line.specs.declared.typing.Typist.{Typist}
use Rattle.typist_line.specs.declared.typing.Typist.TheVariants as stands
use Rattle.typist_line.specs.Conversations.{Conversation, Converses}
use Rattle.typist_line.specs.Typings.{TypingView, Talk, Heard, StandsIf, StandsSo, Types, Stops, going_of}
use Rattle.typist_line.specs.TypedLines.{lines_in}
use Rattle.typist_line.specs.Typings.{is_over, with_talk}
use Rattle.skk_server.specs.declared.talk.Talk.TheVariants.{Typist as TypistTalk}
use Rattle.skk_server.specs.Connections.{more, over, stand_of, in_bytes, is_typist, Means, MeansOf}
use Rattle.skk_server.specs.Ends.{AnswersAll, AnswersSome}
use Rattle.skk_server.specs.Turns.{Suits, TypistStands, Goes, AnswersOf, BreaksOf}
use Rattle.skk_server.proofs.Fronts.{FrontsFirst, answers-some}

-- the first of bytes, or another where there is none
abbrev pub first_of : ℕ → List ℕ → ℕ
first_of other [] = other
first_of other (byte ∷ bytes) = byte

-- no line ends in no bytes
pub typing-new : lines_in [] ≡ ([], [])
unfolding taken
typing-new = refl

-- what a conversation leads to, in bytes
pub in-bytes : {from to : Conversation} {dialog : Dialog} {text : List ℕ} → Leads from dialog text to
    → Leads (in_bytes from) dialog (encode_utf8_all text) (in_bytes to)
in-bytes (here from) = here (in_bytes from)
in-bytes (asking call next answer dialog text to way) =
    asking call (λ given. in_bytes (next given)) answer dialog (encode_utf8_all text) (in_bytes to) (in-bytes way)
in-bytes (printing first rest dialog text to way) =
    subst (λ sent. Leads (in_bytes (prints first rest)) dialog sent (in_bytes to)) (sym (encodes-append first text))
    (printing (encode_utf8_all first) (in_bytes rest) dialog (encode_utf8_all text) (in_bytes to) (in-bytes way))

-- bytes that begin with `T` are a typist's
means-typist : (rules : List Rule) (bytes behind : List ℕ) (conversation : Conversation) → bytes ≡ code "T" ∷ behind
    → Converses rules bytes conversation → Means rules bytes (in_bytes conversation)
means-typist rules bytes behind conversation e converses =
    subst (λ (all : List ℕ). MeansOf (is_typist all) rules bytes (in_bytes conversation)) (sym e)
    (conversation, converses, refl)

-- and so are their fronts, where these are not empty; those that are come to the same for all
means-front : (rules : List Rule) (front rest behind : List ℕ) (conversation : Conversation)
    → front ++ rest ≡ code "T" ∷ behind → Converses rules front conversation
    → Means rules front (in_bytes conversation)
unfolding taken
means-front rules [] rest behind conversation e converses = ap in_bytes converses
means-front rules (byte ∷ bytes) rest behind conversation e converses =
    means-typist rules (byte ∷ bytes) bytes conversation
    (ap (λ b. b ∷ bytes) (ap (first_of byte) e)) converses

-- what is known of each way that a typist's connection stands
abbrev pub LeadsThere : Type 0
LeadsThere =
    (rules : List Rule) (bytes : List ℕ) (talk : Talk) (typist : Typist) (begun : List ℕ)
    → StandsSo rules bytes talk typist begun
    → (meaning : Conversation) × Converses rules bytes meaning × Leads meaning talk.dialog talk.text (ends typist)

-- a typist's connection that is over stays so, whatever comes behind
abbrev pub OverStays : Type 0
OverStays =
    (rules : List Rule) (bytes more : List ℕ) (talk : Talk) (begun later : List ℕ)
    → StandsSo rules bytes talk stands.Over begun → StandsSo rules (bytes ++ more) talk stands.Over later

-- a typist's connection that goes on has answered all
pub typist-all : (rules : List Rule) (bytes behind : List ℕ) (dialog : Dialog) (sent : List ℕ) (typing : TypingView)
    → LeadsThere → bytes ≡ code "T" ∷ behind → TypistStands rules typing bytes dialog sent
    → AnswersAll rules bytes dialog sent more
typist-all rules bytes behind dialog sent typing there e (text, typist, is, goes, stands', sent_is) =
    let talk : Talk = record { dialog = dialog; text = text } in
    let (meaning, converses, led) = there rules bytes talk typist typing.begun
    (subst (λ (t : Option Typist). StandsIf rules bytes talk t typing.begun) is stands') in (
      in_bytes meaning,
      means-typist rules bytes behind meaning e converses,
      subst (λ (s : List ℕ). Leads (in_bytes meaning) dialog s (ends more)) (sym sent_is)
          (subst (λ b. Leads (in_bytes meaning) dialog (encode_utf8_all text) (ends (stand_of b))) goes
          (in-bytes led)),
    )

-- what was sent, and then more, are the bytes of both texts
both-sent : (text more : List ℕ) (sent : List ℕ) → sent ≡ encode_utf8_all text
    → sent ++ encode_utf8_all more ≡ encode_utf8_all (text ++ more)
both-sent text more' sent e = ap (λ s. s ++ encode_utf8_all more') e ∙ sym (encodes-append text more')

-- a typist's connection that is over has answered all, whatever comes behind
typist-over : (rules : List Rule) (bytes behind : List ℕ) (talk : Talk) (sent : List ℕ) (typist : Typist)
    (begun : List ℕ) → OverStays → bytes ≡ code "T" ∷ behind → is_over typist ≡ true
    → StandsSo rules bytes talk typist begun → sent ≡ encode_utf8_all talk.text
    → (later : List ℕ) → AnswersAll rules (bytes ++ later) talk.dialog sent over
typist-over rules bytes behind talk sent stands.New begun stay e ended is sent_is = absurd (false≢true ended)
typist-over rules bytes behind talk sent (stands.Typing session) begun stay e ended is sent_is =
    absurd (false≢true ended)
typist-over rules bytes behind talk sent stands.Over begun stay e ended is sent_is = λ later.
    let all = stay rules bytes later talk begun begun is in (
      in_bytes all.meaning,
      means-typist rules (bytes ++ later) (behind ++ later) all.meaning (ap (λ b. b ++ later) e) all.converses,
      subst (λ (s : List ℕ). Leads (in_bytes all.meaning) talk.dialog s (ends over)) (sym sent_is) (in-bytes all.led),
    )

-- its next bytes were answered
pub typist-on : (rules : List Rule) (piece : List ℕ) (typing typing' : TypingView) (before after : Heard)
    (typist : Typist) → OverStays → Types rules piece typing typing' before after → typing'.typist ≡ Some typist
    → AnswersOf rules piece (TypistTalk typing) (TypistTalk typing') before after (going_of typist)
typist-on rules piece typing typing' before after typist stay types is = (
  types.talk.dialog,
  encode_utf8_all types.talk.text,
  types.grows,
  λ bytes known known_sent begun. by bytes known known_sent begun.0 begun.1 (is_over typist) refl,
)
  where
    by : (bytes : List ℕ) (known : Dialog) (known_sent : List ℕ) → Suits (TypistTalk typing) (bytes ++ piece)
        → TypistStands rules typing bytes known known_sent → (b : Bool) → is_over typist ≡ b
        → Goes rules (TypistTalk typing') (if b then Over else More) (bytes ++ piece) (known ++ types.talk.dialog)
        (known_sent ++ encode_utf8_all types.talk.text)
    by bytes known known_sent suits (text, typist', is', goes, stands', sent_is) false e = (
      suits,
      (
        text ++ types.talk.text,
        typist,
        is,
        e,
        types.stands bytes (record { dialog = known; text = text }) stands',
        both-sent text types.talk.text known_sent sent_is,
      ),
    )
    by bytes known known_sent suits (text, typist', is', goes, stands', sent_is) true e =
        let earlier : Talk = record { dialog = known; text = text } in
        typist-over rules (bytes ++ piece) suits.0 (with_talk earlier types.talk)
        (known_sent ++ encode_utf8_all types.talk.text) typist typing'.begun stay suits.1 e
        (subst (λ (t : Option Typist). StandsIf rules (bytes ++ piece) (with_talk earlier types.talk) t typing'.begun)
        is (types.stands bytes earlier stands'))
        (both-sent text types.talk.text known_sent sent_is)

-- or some of them were
pub typist-broken : (rules : List Rule) (piece : List ℕ) (typing : TypingView) (before after : Heard) → FrontsFirst
    → Stops rules piece typing before after → BreaksOf rules piece (TypistTalk typing) before after
typist-broken rules piece typing before after fronts stops = (
  stops.talk.dialog,
  encode_utf8_all stops.talk.text,
  stops.grows,
  λ bytes known known_sent begun. by bytes known known_sent begun.0 begun.1,
)
  where
    by : (bytes : List ℕ) (known : Dialog) (known_sent : List ℕ) → Suits (TypistTalk typing) (bytes ++ piece)
        → TypistStands rules typing bytes known known_sent
        → AnswersSome rules (bytes ++ piece) (known ++ stops.talk.dialog)
        (known_sent ++ encode_utf8_all stops.talk.text)
    by bytes known known_sent suits (text, typist, is, goes, stands', sent_is) =
        let broken = stops.breaks bytes (record { dialog = known; text = text }) stands' in
        let sent = known_sent ++ encode_utf8_all stops.talk.text in
        answers-some rules (bytes ++ piece) broken.front broken.rest (known ++ stops.talk.dialog) sent sent
        (in_bytes broken.meaning) (in_bytes broken.to) fronts broken.bytes_are
        (means-front rules broken.front broken.rest suits.0 broken.meaning (sym broken.bytes_are ∙ suits.1)
        broken.converses)
        (subst (λ (s : List ℕ). Leads (in_bytes broken.meaning) (known ++ stops.talk.dialog) s (in_bytes broken.to))
        (sym (both-sent text stops.talk.text known_sent sent_is)) (in-bytes broken.led))
        ([], sym (append-nil sent))

-- the same by the result of the call that types them
pub typist-answers : (rules : List Rule) (piece : List ℕ) (typing typing' : TypingView) (before after : Heard)
    (r : Result Going Memory) → OverStays → OnOk r (Types rules piece typing typing' before after)
    → IfOk r (λ going. (typist : Typist) × (typing'.typist ≡ Some typist) × (going ≡ going_of typist))
    → IfOk r (AnswersOf rules piece (TypistTalk typing) (TypistTalk typing') before after)
typist-answers rules piece typing typing' before after (Ok going) stay types (typist, is, told) =
    subst (AnswersOf rules piece (TypistTalk typing) (TypistTalk typing') before after) (sym told)
    (typist-on rules piece typing typing' before after typist stay types is)
typist-answers rules piece typing typing' before after (Err memory) stay types told = tt
