-- How an interaction ran on between two moments.
use Rattle.std.specs.Prelude.{◌≡◌, ⊤, ℕ, List, ◌++◌}
use Rattle.skk_calls.specs.Interactions.{Interaction, Dialog, Leads}

-- an interaction ran on, whatever `i` stands behind it: a dialog was said and a text was put out, and they lead from
-- `from i` to a place that `To i` allows
pub record Runs {S I : Type 0} (from : I → Interaction S) (To : I → Interaction S → Type 0) (said said' : Dialog)
    (Put : List ℕ → Type 0) : Type 0 where
  pub dialog : Dialog
  pub text : List ℕ
  pub grows : said' ≡ said ++ dialog
  pub put : Put text
  pub led : (i : I) → (to : Interaction S) × To i to × Leads (from i) dialog text to

-- it came to this place
abbrev pub at : {S I : Type 0} → (I → Interaction S) → I → Interaction S → Type 0
at place i to = to ≡ place i

-- it came to some place, as where memory is out
abbrev pub anywhere : {S I : Type 0} → I → Interaction S → Type 0
anywhere i to = ⊤
