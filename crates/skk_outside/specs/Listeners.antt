-- What a listener accepts and dials.
use Rattle.std.specs.Prelude.{◌≡◌, ℕ, ◌+◌, Option, None, Some, List, [], ◌∷◌, Result, Ok, Err}

-- a call that accepts gives the first of the links that are still to come, and none exactly where none can come; a
-- listener that does not tell them never comes to its end; a call that fails leaves them
abbrev pub Accepts : {L E : Type 0} → Option (List L) → Option (List L) → Result (Option L) E → Type 0
Accepts coming coming' (Err fault) = coming' ≡ coming
Accepts None coming' (Ok None) = ⊥
Accepts None coming' (Ok (Some link)) = coming' ≡ None
Accepts (Some []) coming' (Ok None) = coming' ≡ Some []
Accepts (Some []) coming' (Ok (Some link)) = ⊥
Accepts (Some (first ∷ rest)) coming' (Ok None) = ⊥
Accepts (Some (first ∷ rest)) coming' (Ok (Some link)) = (link ≡ first) × (coming' ≡ Some rest)

-- a call that dials gives the first of the links that are still to come, and fails where there is none; a listener that
-- does not tell them may give any; a call that fails leaves them
abbrev pub Dials : {L E : Type 0} → Option (List L) → Option (List L) → Result L E → Type 0
Dials coming coming' (Err fault) = coming' ≡ coming
Dials None coming' (Ok link) = coming' ≡ None
Dials (Some []) coming' (Ok link) = ⊥
Dials (Some (first ∷ rest)) coming' (Ok link) = (link ≡ first) × (coming' ≡ Some rest)

-- how many links are out after a call that accepts
abbrev pub out_after : {L E : Type 0} → ℕ → Result (Option L) E → ℕ
out_after out (Ok (Some link)) = out + 1
out_after out result = out
