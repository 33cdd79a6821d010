-- What holds of interactions and of the dialogs that they ask.
use Rattle.std.proofs.Common.{◌≡◌, ℕ, Some, List, [], ◌∷◌, ◌++◌, refl, sym, ap, ◌∙◌, append_assoc, subst}
use Rattle.std.proofs.lemmas.List.{append-nil}
use Rattle.skk_calls.specs.declared.answer.Answer.{Answer}
use Rattle.skk_calls.specs.declared.answer.Answer.TheVariants.{Done}
use Rattle.skk_calls.specs.Dictionary.{answer, after}
use Rattle.skk_calls.specs.Interactions.{Interaction, ends, asks, prints, followed_by, printed, asked, end_of, Dialog}
use Rattle.skk_calls.specs.Interactions.{Comes, Begins, Leads, here, asking, printing, calls_of, answers_of}
use Rattle.skk_calls.specs.Interactions.{IsAnsweredAlone, printed_alone}
use Rattle.skk_calls.specs.Rows.{Row}
use Rattle.skk_calls.specs.States.{State}

-- an interaction makes no call by no answer
pub asked-none : {S : Type 0} (interaction : Interaction S) → asked interaction [] ≡ []
asked-none (ends value) = refl
asked-none (asks call next) = refl
asked-none (prints text rest) = asked-none rest

-- what is printed is printed on the way, and then by what it leads to
pub leads-printed : {S : Type 0} {from to : Interaction S} {dialog : Dialog} {text : List ℕ} → Leads from dialog text to
    → (answers : List Answer) → printed from (answers_of dialog ++ answers) ≡ text ++ printed to answers
leads-printed (here from) answers = refl
leads-printed (asking call next answer dialog text to way) answers = leads-printed way answers
leads-printed (printing first rest dialog text to way) answers =
    ap (λ behind. first ++ behind) (leads-printed way answers) ∙ sym (append_assoc first text (printed to answers))

-- what is asked is asked on the way, and then by what it leads to
pub leads-asked : {S : Type 0} {from to : Interaction S} {dialog : Dialog} {text : List ℕ} → Leads from dialog text to
    → (answers : List Answer) → asked from (answers_of dialog ++ answers) ≡ calls_of dialog ++ asked to answers
leads-asked (here from) answers = refl
leads-asked (asking call next answer dialog text to way) answers = ap (λ calls. call ∷ calls) (leads-asked way answers)
leads-asked (printing first rest dialog text to way) answers = leads-asked way answers

-- the end is that of what it leads to
pub leads-end : {S : Type 0} {from to : Interaction S} {dialog : Dialog} {text : List ℕ} → Leads from dialog text to
    → (answers : List Answer) → end_of from (answers_of dialog ++ answers) ≡ end_of to answers
leads-end (here from) answers = refl
leads-end (asking call next answer dialog text to way) answers = leads-end way answers
leads-end (printing first rest dialog text to way) answers = leads-end way answers

-- two ways, one behind the other, are one
pub leads-on : {S : Type 0} {from middle to : Interaction S} {dialog dialog' : Dialog} {text text' : List ℕ}
    → Leads from dialog text middle → Leads middle dialog' text' to → Leads from (dialog ++ dialog') (text ++ text') to
leads-on (here from) on = on
leads-on {to = to} {dialog' = dialog'} {text' = text'} (asking call next answer dialog text middle way) on =
    asking call next answer (dialog ++ dialog') (text ++ text') to (leads-on way on)
leads-on {to = to} {dialog' = dialog'} {text' = text'} (printing first rest dialog text middle way) on =
    subst (λ whole. Leads (prints first rest) (dialog ++ dialog') whole to) (sym (append_assoc first text text'))
    (printing first rest (dialog ++ dialog') (text ++ text') to (leads-on way on))

-- what is printed next is printed on the way
pub leads-prints : {S : Type 0} {from rest : Interaction S} {dialog : Dialog} {text : List ℕ} (more : List ℕ)
    → Leads from dialog text (prints more rest) → Leads from dialog (text ++ more) rest
leads-prints {from = from} {rest = rest} {dialog = dialog} {text = text} more way =
    subst (λ d. Leads from d (text ++ more) rest) (append-nil dialog)
    (subst (λ t. Leads from (dialog ++ []) (text ++ t) rest) (append-nil more)
    (leads-on way (printing more rest [] [] rest (here rest))))

-- by these answers alone what is printed, asked and ended with is that of the way, and then of no answer
pub led-printed : {S : Type 0} {from to : Interaction S} {dialog : Dialog} {text : List ℕ} → Leads from dialog text to
    → printed from (answers_of dialog) ≡ text ++ printed to []
led-printed {from = from} {dialog = dialog} way =
    ap (printed from) (sym (append-nil (answers_of dialog))) ∙ leads-printed way []

pub led-asked : {S : Type 0} {from to : Interaction S} {dialog : Dialog} {text : List ℕ} → Leads from dialog text to
    → asked from (answers_of dialog) ≡ calls_of dialog
led-asked {from = from} {to = to} {dialog = dialog} way =
    ap (asked from) (sym (append-nil (answers_of dialog))) ∙ leads-asked way []
    ∙ ap (λ calls. calls_of dialog ++ calls) (asked-none to) ∙ append-nil (calls_of dialog)

pub led-end : {S : Type 0} {from to : Interaction S} {dialog : Dialog} {text : List ℕ} → Leads from dialog text to
    → end_of from (answers_of dialog) ≡ end_of to []
led-end {from = from} {dialog = dialog} way = ap (end_of from) (sym (append-nil (answers_of dialog))) ∙ leads-end way []

-- what an interaction comes to leads to what follows behind it
pub comes-followed : {S T : Type 0} (interaction : Interaction S) (dialog : Dialog) (end : S)
    (behind : S → Interaction T) → Comes interaction dialog end
    → Leads (followed_by interaction behind) dialog [] (behind end)
comes-followed (ends value) [] end behind comes =
    subst (λ v. Leads (behind value) [] [] (behind v)) comes (here (behind value))
comes-followed (asks call next) (pair ∷ dialog) end behind comes =
    subst (λ c. Leads (followed_by (asks call next) behind) ((c, pair.1) ∷ dialog) [] (behind end)) comes.0
    (asking call (λ answer. followed_by (next answer) behind) pair.1 dialog [] (behind end)
    (comes-followed (next pair.1) dialog end behind comes.1))
comes-followed (asks call next) [] end behind comes = absurd comes
comes-followed (ends value) (pair ∷ dialog) end behind comes = absurd comes
comes-followed (prints text rest) [] end behind comes = absurd comes
comes-followed (prints text rest) (pair ∷ dialog) end behind comes = absurd comes

-- the first of what an interaction asks is the first of what it asks with another behind it
pub begins-followed : {S T : Type 0} (interaction : Interaction S) (dialog : Dialog) (behind : S → Interaction T)
    → Begins interaction dialog → Begins (followed_by interaction behind) dialog
begins-followed interaction [] behind begins = tt
begins-followed (asks call next) (pair ∷ dialog) behind begins =
    (begins.0, begins-followed (next pair.1) dialog behind begins.1)
begins-followed (ends value) (pair ∷ dialog) behind begins = absurd begins
begins-followed (prints text rest) (pair ∷ dialog) behind begins = absurd begins

-- what an interaction comes to is the first of what it asks
pub comes-begins : {S : Type 0} (interaction : Interaction S) (dialog : Dialog) (end : S) → Comes interaction dialog end
    → Begins interaction dialog
comes-begins interaction [] end comes = tt
comes-begins (asks call next) (pair ∷ dialog) end comes = (comes.0, comes-begins (next pair.1) dialog end comes.1)
comes-begins (ends value) (pair ∷ dialog) end comes = absurd comes
comes-begins (prints text rest) (pair ∷ dialog) end comes = absurd comes

-- the first of what an interaction asks leads somewhere
pub begins-leads : {S : Type 0} (interaction : Interaction S) (dialog : Dialog) → Begins interaction dialog
    → (to : Interaction S) × Leads interaction dialog [] to
begins-leads interaction [] begins = (interaction, here interaction)
begins-leads (asks call next) (pair ∷ dialog) begins =
    let rest = begins-leads (next pair.1) dialog begins.1 in (
      rest.0,
      subst (λ c. Leads (asks call next) ((c, pair.1) ∷ dialog) [] rest.0) begins.0
          (asking call next pair.1 dialog [] rest.0 rest.1),
    )
begins-leads (ends value) (pair ∷ dialog) begins = absurd begins
begins-leads (prints text rest) (pair ∷ dialog) begins = absurd begins

-- an interaction of which the dictionary of one thread answers all calls prints what is printed where that answers
pub printed-answered_alone : {S : Type 0} (interaction : Interaction S) (dialog : Dialog) (end : S)
    (files : List (List Row)) (state : State)
    → asked interaction (answers_of dialog) ≡ calls_of dialog → end_of interaction (answers_of dialog) ≡ Some end
    → IsAnsweredAlone files state dialog
    → printed interaction (answers_of dialog) ≡ printed_alone files state interaction
printed-answered_alone (ends value) dialog end files state calls ended alone = refl
printed-answered_alone (asks call next) [] end files state calls ended alone = absurd (cc)
printed-answered_alone (asks call next) (pair ∷ dialog) end files state calls ended alone =
    let first : call ≡ pair.0 = cc in
    let rest : asked (next pair.1) (answers_of dialog) ≡ calls_of dialog = cc in
    printed-answered_alone (next pair.1) dialog end files (after state pair.0) rest ended alone.1
    ∙ ap (λ given. printed_alone files (after state pair.0) (next given)) alone.0
    ∙ ap (λ c. printed_alone files (after state c) (next (Done (answer files state c)))) (sym first)
printed-answered_alone (prints text rest) dialog end files state calls ended alone =
    ap (λ behind. text ++ behind) (printed-answered_alone rest dialog end files state calls ended alone)

-- what comes of an interaction, and of what follows behind it, comes of both
pub comes-behind : {S T : Type 0} (interaction : Interaction S) (dialog : Dialog) (end : S) (behind : S → Interaction T)
    → Comes interaction dialog end
    → (rest : Dialog) (last : T) → Comes (behind end) rest last
    → Comes (followed_by interaction behind) (dialog ++ rest) last
comes-behind (ends value) [] end behind comes rest last more = subst (λ v. Comes (behind v) rest last) (sym comes) more
comes-behind (asks call next) (pair ∷ dialog) end behind comes rest last more =
    (comes.0, comes-behind (next pair.1) dialog end behind comes.1 rest last more)
comes-behind (asks call next) [] end behind comes rest last more = absurd comes
comes-behind (ends value) (pair ∷ dialog) end behind comes rest last more = absurd comes
comes-behind (prints text more) [] end behind comes rest last behind_it = absurd comes
comes-behind (prints text more) (pair ∷ dialog) end behind comes rest last behind_it = absurd comes

-- what comes of an interaction, and the first of what follows behind it, are the first of both
pub begins-behind : {S T : Type 0} (interaction : Interaction S) (dialog : Dialog) (end : S)
    (behind : S → Interaction T) → Comes interaction dialog end
    → (rest : Dialog) → Begins (behind end) rest → Begins (followed_by interaction behind) (dialog ++ rest)
begins-behind (ends value) [] end behind comes rest more = subst (λ v. Begins (behind v) rest) (sym comes) more
begins-behind (asks call next) (pair ∷ dialog) end behind comes rest more =
    (comes.0, begins-behind (next pair.1) dialog end behind comes.1 rest more)
begins-behind (asks call next) [] end behind comes rest more = absurd comes
begins-behind (ends value) (pair ∷ dialog) end behind comes rest more = absurd comes
begins-behind (prints text more) [] end behind comes rest behind_it = absurd comes
begins-behind (prints text more) (pair ∷ dialog) end behind comes rest behind_it = absurd comes
