-- What holds of interactions of which one is the first of another.
use Rattle.std.proofs.Common.{ℕ, List, ◌∷◌, ◌++◌, refl, subst}
use Rattle.skk_calls.specs.Interactions.{Interaction, ends, asks, prints, followed_by, Dialog, Leads, here, asking}
use Rattle.skk_calls.specs.Interactions.{printing}
use Rattle.typist_line.specs.Firsts.{IsFirstOf}

-- what the first leads to by a dialog, with a text, the other does too
pub leads-first : {S : Type 0} {from to : Interaction S} {dialog : Dialog} {text : List ℕ} → Leads from dialog text to
    → (other : Interaction S) → IsFirstOf from other → (behind : Interaction S) × Leads other dialog text behind
leads-first (here from) other first = (other, here other)
leads-first (asking call next answer dialog text to way) (asks call' next') first =
    let (behind, on) = leads-first way (next' answer) (first.1 answer) in (
      behind,
      subst (λ c. Leads (asks c next') ((call, answer) ∷ dialog) text behind) first.0
          (asking call next' answer dialog text behind on),
    )
leads-first (printing text' rest dialog text to way) (prints text'' rest') first =
    let (behind, on) = leads-first way rest' first.1 in (
      behind,
      subst (λ t. Leads (prints t rest') dialog (text' ++ text) behind) first.0
          (printing text' rest' dialog text behind on),
    )
leads-first (asking call next answer dialog text to way) (ends value) first = absurd first
leads-first (asking call next answer dialog text to way) (prints text' rest') first = absurd first
leads-first (printing text' rest dialog text to way) (ends value) first = absurd first
leads-first (printing text' rest dialog text to way) (asks call next) first = absurd first

-- an interaction is the first of itself
pub first-itself : {S : Type 0} (interaction : Interaction S) → IsFirstOf interaction interaction
first-itself (ends value) = tt
first-itself (asks call next) = (refl, λ answer. first-itself (next answer))
first-itself (prints text rest) = (refl, first-itself rest)

-- and of itself with another behind it
pub first-followed : {S : Type 0} (interaction : Interaction S) (behind : S → Interaction S)
    → IsFirstOf interaction (followed_by interaction behind)
first-followed (ends value) behind = tt
first-followed (asks call next) behind = (refl, λ answer. first-followed (next answer) behind)
first-followed (prints text rest) behind = (refl, first-followed rest behind)
