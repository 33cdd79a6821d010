-- Interactions that go on.
use Rattle.std.proofs.Common.{◌≡◌, ℕ, Bool, false, List, [], ◌∷◌, ◌++◌, refl, sym, ap, ◌∙◌, subst}
use Rattle.romaji_rules.specs.declared.rule.Rule.{Rule}
use Rattle.skk_calls.specs.Interactions.{Interaction, ends, asks, prints, followed_by, Dialog, Leads, here, asking}
use Rattle.skk_calls.specs.Interactions.{printing}
use Rattle.session_machine.specs.Display.{line}
use Rattle.session_machine.specs.Pressed.{all_pressed}
use Rattle.session_machine.specs.Session.{Session, new_session}
use Rattle.typist_line.specs.declared.typing.Typist.{Typist}
use Rattle.typist_line.specs.declared.typing.Typist.TheVariants.{New, Typing, Over}
use Rattle.typist_line.specs.Conversations.{Conversation, typed, opened, fault_reply}
use Rattle.typist_line.specs.FirstLaws.{first-followed}
use Rattle.typist_line.specs.Firsts.{IsFirstOf}
use Rattle.typist_line.specs.TypedLines.{Opening, KeyLine, keys, bad}

-- what follows on what follows
followed-twice : {S T U : Type 0} (interaction : Interaction S) (f : S → Interaction T) (g : T → Interaction U)
    → followed_by (followed_by interaction f) g ≡ followed_by interaction (λ value. followed_by (f value) g)
followed-twice (ends value) f g = refl
followed-twice (asks call next) f g = λ i. asks call (λ answer. followed-twice (next answer) f g i)
followed-twice (prints text rest) f g = ap (prints text) (followed-twice rest f g)

-- what follows is the same where it is the same by each value
followed-same : {S T : Type 0} (interaction : Interaction S) (f g : S → Interaction T)
    → ((value : S) → f value ≡ g value) → followed_by interaction f ≡ followed_by interaction g
followed-same (ends value) f g same = same value
followed-same (asks call next) f g same = λ i. asks call (λ answer. followed-same (next answer) f g same i)
followed-same (prints text rest) f g same = ap (prints text) (followed-same rest f g same)

-- an interaction that leads somewhere leads there also with another behind it
leads-followed : {S T : Type 0} {from to : Interaction S} {dialog : Dialog} {text : List ℕ} → Leads from dialog text to
    → (f : S → Interaction T) → Leads (followed_by from f) dialog text (followed_by to f)
leads-followed (here same) f = here (followed_by same f)
leads-followed (asking call next answer dialog text to way) f =
    asking call (λ given. followed_by (next given) f) answer dialog text (followed_by to f) (leads-followed way f)
leads-followed (printing first rest dialog text to way) f =
    printing first (followed_by rest f) dialog text (followed_by to f) (leads-followed way f)

-- more lines, by how a connection stands
abbrev pub further : List Rule → List KeyLine → Bool → Typist → Conversation
further rules lines long New = ends New
further rules lines long (Typing session) = typed rules session lines long
further rules lines long Over = ends Over

-- further lines are typed behind others
typed-on : (rules : List Rule) (session : Session) (lines more : List KeyLine) (long : Bool)
    → typed rules session (lines ++ more) long ≡ followed_by (typed rules session lines false) (further rules more long)
typed-on rules session [] more long = refl
typed-on rules session (keys ks ∷ lines) more long =
    followed-same (all_pressed rules session ks) (λ after. prints (line after) (typed rules after (lines ++ more) long))
    (λ after. followed_by (prints (line after) (typed rules after lines false)) (further rules more long))
    (λ after. ap (prints (line after)) (typed-on rules after lines more long))
    ∙ sym (followed-twice (all_pressed rules session ks) (λ after. prints (line after) (typed rules after lines false))
    (further rules more long))
typed-on rules session (bad at ∷ lines) more long =
    ap (prints (fault_reply at)) (typed-on rules session lines more long)

-- so where an opened connection led to a session, it leads there with more lines behind
pub opened-on : (rules : List Rule) (opening : Opening) (lines more : List KeyLine) (long : Bool) (dialog : Dialog)
    (text : List ℕ) (session : Session)
    → Leads (opened rules opening lines false) dialog text (ends (Typing session))
    → Leads (opened rules opening (lines ++ more) long) dialog text (typed rules session more long)
opened-on rules opening lines more long dialog text session led =
    let first = new_session opening.typist opening.book in
    subst (λ meaning. Leads meaning dialog text (typed rules session more long))
    (ap (prints (line first)) (sym (typed-on rules first lines more long)))
    (leads-followed led (further rules more long))

-- and what it comes to is the first of what it comes to with them
pub opened-first : (rules : List Rule) (opening : Opening) (lines more : List KeyLine) (long : Bool)
    → IsFirstOf (opened rules opening lines false) (opened rules opening (lines ++ more) long)
opened-first rules opening lines more long =
    let first = new_session opening.typist opening.book in (
      refl,
      subst (IsFirstOf (typed rules first lines false)) (sym (typed-on rules first lines more long))
          (first-followed (typed rules first lines false) (further rules more long)),
    )
