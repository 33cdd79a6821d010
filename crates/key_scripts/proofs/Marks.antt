-- The marks of the sessions that are named, as a line more marks its own.
use Rattle.std.proofs.Common.{◌≡◌, ◌<◌, sym, ℕ, Bool, true, false, Contains, IsTrue, ◌↔◌, Some, List, [], ◌∷◌, ◌++◌}
use Rattle.std.proofs.Common.{length, map, get_or, set, ap, ◌∙◌, subst, arith, inl, inr}
use Rattle.std.proofs.lemmas.Bool.{cases_eq}
use Rattle.std.proofs.lemmas.List.{get_or-set_same, get_or-set_other, map-append}
use Rattle.std.proofs.lemmas.List.Elements.{Contains-push, Contains-push_cases, Contains-append_left}
use Rattle.skk_text.specs.declared.key.Key.{Key}
use Rattle.key_scripts.specs.Marks.{Mark}
use Rattle.key_scripts.specs.Script.{IsSession, MayFollow, session_of}
use Rattle.key_scripts.specs.declared.line.Line.{Line}
use Rattle.key_scripts.specs.declared.line.Line.TheVariants.{Keys, Opening}

-- a line more
mark-push : (marks : List Bool) (lines : List Line) (line : Line) → session_of line < length marks → Mark marks lines
    → Mark (set marks (session_of line) true) (lines ++ line ∷ [])
mark-push marks lines line within mark = λ s small.
    let session = session_of line in
    let sessions = map session_of lines in
    let more : map session_of (lines ++ line ∷ []) ≡ sessions ++ session ∷ [] =
    map-append session_of lines (line ∷ []) in
    subst (λ (all : List ℕ). IsTrue (get_or (set marks session true) s false) ↔ Contains all s) (sym more)
    (elim (cases_eq s session) [
      | inl e ↦ (
        λ t. subst (Contains (sessions ++ session ∷ [])) (sym e) (Contains-push sessions session),
        λ t. ap (λ i. get_or (set marks session true) i false) e ∙ get_or-set_same marks session true false within,
      )
      | inr other ↦
          let same : get_or (set marks session true) s false ≡ get_or marks s false =
          get_or-set_other marks session s true false other in (
            λ t. Contains-append_left sessions (session ∷ []) s ((mark s small).0 (sym same ∙ t)),
            λ t. elim (Contains-push_cases sessions session s t) [
              | inl earlier ↦ same ∙ (mark s small).1 earlier
              | inr e ↦ absurd (other (sym e))
            ],
          )
    ])

-- a line that may follow, and what the marks tell behind it
abbrev pub MarksOn : List Bool → List Bool → Line → Type 0
MarksOn old new line =
    (lines : List Line) → Mark old lines → MayFollow lines (Some line) × Mark new (lines ++ line ∷ [])

-- a key line marks its session
pub keys-marked : (marks : List Bool) (line : Line) (session : ℕ) (ks : List Key) → length marks ≡ 65
    → IsSession (session_of line) → line ≡ Keys session ks → MarksOn marks (set marks session true) line
keys-marked marks line session ks long numbered e =
    let small = subst (λ (l : Line). IsSession (session_of l)) e numbered in
    subst (MarksOn marks (set marks session true)) (sym e)
    (λ lines mark. (tt, mark-push marks lines (Keys session ks) (omega (arith, small)) mark))

-- so does an opening line of a session that is not marked
pub opening-marked : (marks : List Bool) (line : Line) (session typist book : ℕ) → length marks ≡ 65
    → IsSession (session_of line) → line ≡ Opening session typist book → get_or marks session false ≡ false
    → MarksOn marks (set marks session true) line
opening-marked marks line session typist book long numbered e unmarked =
    let small = subst (λ (l : Line). IsSession (session_of l)) e numbered in
    subst (MarksOn marks (set marks session true)) (sym e)
    (λ lines mark. (
      λ earlier. let marked = (mark session small.1).1 earlier in cc,
      mark-push marks lines (Opening session typist book) (omega (arith, small)) mark,
    ))
