-- What a history says with one entry more.
use Rattle.std.proofs.Common.{◌≡◌, ◌⊎◌, inl, inr, ◌∙◌, ap, refl, subst, ℕ, true, false, ◌==◌, Some, None}
use Rattle.std.proofs.Common.{List, [], ◌∷◌, ◌++◌, if◌then◌else◌}
use Rattle.std.specs.List.{cons_option}
use Rattle.std.proofs.lemmas.List.Elements.{filter_map-append}
use Rattle.skk_calls.specs.declared.call.Call.{Call}
use Rattle.skk_calls.specs.declared.chronicle.Noted.{Noted}
use Rattle.skk_calls.specs.declared.entry.Entry.{Entry}
use Rattle.skk_calls.specs.Chronicles.{noted_entry, history_of}
use Rattle.skk_calls.specs.Histories.{Opening, FullFile, IsLegalAnswer, IsLegalWhere, after_entry, state_after}
use Rattle.skk_calls.specs.Histories.{in_doubt, in_doubt_after, said_by, dialog}
use Rattle.skk_calls.specs.States.{State}

-- the state after one entry more
pub state-more : (state : State) (history : List Entry) (entry : Entry)
    → state_after state (history ++ entry ∷ []) ≡ after_entry (state_after state history) entry
state-more state [] entry = refl
state-more state (first ∷ history) entry = state-more (after_entry state first) history entry

-- the calls in doubt after one entry more
pub doubt-more : (calls : List Call) (history : List Entry) (entry : Entry)
    → in_doubt calls (history ++ entry ∷ []) ≡ in_doubt_after (in_doubt calls history) entry.call entry.answer
doubt-more calls [] entry = refl
doubt-more calls (first ∷ history) entry = doubt-more (in_doubt_after calls first.call first.answer) history entry

-- the dialog of the caller of one entry more has it
pub dialog-own : (history : List Entry) (entry : Entry) (number : ℕ) → (entry.number == number) ≡ true
    → dialog (history ++ entry ∷ []) number ≡ dialog history number ++ (entry.call, entry.answer) ∷ []
dialog-own history entry number own =
    filter_map-append (said_by number) history (entry ∷ [])
    ∙ ap (λ b. dialog history number
    ++ cons_option (if b then Some (entry.call, entry.answer) else None) []) own

-- and that of another caller stays
pub dialog-other : (history : List Entry) (entry : Entry) (number : ℕ) → (entry.number == number) ≡ false
    → dialog (history ++ entry ∷ []) number ≡ dialog history number ++ []
dialog-other history entry number other =
    filter_map-append (said_by number) history (entry ∷ [])
    ∙ ap (λ b. dialog history number
    ++ cons_option (if b then Some (entry.call, entry.answer) else None) []) other

-- an entry of a history with one more stands in that history, or is the last
pub split-last : (history : List Entry) (entry : Entry) (prefix : List Entry) (one : Entry) (rest : List Entry)
    → history ++ entry ∷ [] ≡ prefix ++ one ∷ rest
    → ((behind : List Entry) × (history ≡ prefix ++ one ∷ behind)) ⊎ ((history ≡ prefix) × (entry ≡ one))
split-last [] entry [] one rest e = inr (refl, cc)
split-last (first ∷ history) entry [] one rest e =
    let same : first ≡ one = cc in inl (history, ap (λ h. h ∷ history) same)
split-last [] entry (head ∷ []) one rest e = absurd (cc)
split-last [] entry (head ∷ other ∷ prefix) one rest e = absurd (cc)
split-last (first ∷ history) entry (head ∷ prefix) one rest e =
    let same : first ≡ head = cc in
    let tails : history ++ entry ∷ [] ≡ prefix ++ one ∷ rest = cc in
    elim (split-last history entry prefix one rest tails) [
      | inl within ↦ inl (within.0, ap (λ h. h ∷ history) same ∙ ap (λ h. head ∷ h) within.1)
      | inr last ↦ inr (ap (λ h. h ∷ history) same ∙ ap (λ h. head ∷ h) last.0, last.1)
    ]

-- a legal history is legal with one entry more whose answer is legal behind it
pub legal-more : (Full : Opening → State → Call → FullFile → Type 0) (opening : Opening) (history : List Entry)
    (entry : Entry) → IsLegalWhere Full opening history
    → IsLegalAnswer Full opening (state_after opening.state history) entry.call entry.answer
    → IsLegalWhere Full opening (history ++ entry ∷ [])
legal-more Full opening history entry legal last prefix one rest e =
    elim (split-last history entry prefix one rest e) [
      | inl within ↦ legal prefix one within.0 within.1
      | inr end ↦
          subst (λ (h : List Entry). IsLegalAnswer Full opening (state_after opening.state h) one.call one.answer) end.0
          (subst (λ (x : Entry). IsLegalAnswer Full opening (state_after opening.state history) x.call x.answer)
          end.1 last)
    ]

-- the history of a chronicle with one note more
pub history-more : (notes : List Noted) (note : Noted)
    → history_of (notes ++ note ∷ []) ≡ history_of notes ++ history_of (note ∷ [])
history-more notes note = filter_map-append noted_entry notes (note ∷ [])
