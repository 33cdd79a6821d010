-- What a line of keys comes to.
use Rattle.std.proofs.Common.{◌≡◌, ℕ, false, List, [], ◌∷◌, ◌++◌, sym, ◌∙◌, append-nil}
use Rattle.romaji_rules.specs.declared.rule.Rule.{Rule}
use Rattle.skk_text.specs.declared.key.Key.{Key}
use Rattle.skk_calls.specs.Interactions.{ends, prints, Dialog, Comes, Begins, Leads, here}
use Rattle.skk_calls.specs.InteractionLaws.{comes-followed, begins-followed, begins-leads, leads-prints}
use Rattle.session_machine.specs.Display.{line}
use Rattle.session_machine.specs.Pressed.{all_pressed}
use Rattle.session_machine.specs.Session.{Session}
use Rattle.typist_line.specs.declared.typing.Typist.TheVariants.{Typing}
use Rattle.typist_line.specs.Conversations.{Conversation, typed, fault_reply}
use Rattle.typist_line.specs.TypedLines.{keys, bad}

-- keys that were pressed, whose line is not sent
pub pressed-unsent : (rules : List Rule) (session next : Session) (ks : List Key) (dialog : Dialog)
    → Comes (all_pressed rules session ks) dialog next
    → Leads (typed rules session (keys ks ∷ []) false) dialog [] (prints (line next) (ends (Typing next)))
pressed-unsent rules session next ks dialog comes =
    comes-followed (all_pressed rules session ks) dialog next
    (λ after. prints (line after) (typed rules after [] false)) comes

-- and sent
pub pressed-whole : (rules : List Rule) (session next : Session) (ks : List Key) (dialog : Dialog)
    → Comes (all_pressed rules session ks) dialog next
    → Leads (typed rules session (keys ks ∷ []) false) dialog (line next) (ends (Typing next))
pressed-whole rules session next ks dialog comes =
    leads-prints (line next) (pressed-unsent rules session next ks dialog comes)

-- keys of which the first was asked
pub pressed-begun : (rules : List Rule) (session : Session) (ks : List Key) (dialog : Dialog)
    → Begins (all_pressed rules session ks) dialog
    → (to : Conversation) × Leads (typed rules session (keys ks ∷ []) false) dialog [] to
pressed-begun rules session ks dialog begins =
    begins-leads (typed rules session (keys ks ∷ []) false) dialog
    (begins-followed (all_pressed rules session ks) dialog (λ after. prints (line after) (typed rules after [] false))
    begins)

-- a line that is no key text
pub faulty-told : (rules : List Rule) (session : Session) (at : ℕ)
    → Leads (typed rules session (bad at ∷ []) false) [] (fault_reply at) (ends (Typing session))
faulty-told rules session at =
    leads-prints (fault_reply at) (here (prints (fault_reply at) (ends (Typing session))))

-- nothing more was sent
pub unsent : (out out' : List ℕ) → out' ≡ out → out' ≡ out ++ []
unsent out out' same = same ∙ sym (append-nil out)
