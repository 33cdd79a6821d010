-- The parts of a word, and what they are filled with.
use Rattle.std.proofs.Common.{◌≡◌, ◌∙◌, ◌+◌, ℕ, zero, suc, Bool, true, Some, List, [], ◌∷◌, ◌++◌}
use Rattle.std.proofs.Common.{add-one, drop, refl, sym, ap, append_assoc, arith}
use Rattle.std.specs.Prelude.{slice_get}
use Rattle.std.specs.List.{list_all}
use Rattle.numeric_entries.specs.declared.form.NumberForm.{NumberForm}
use Rattle.numeric_entries.specs.Forms.{Part, stands, form_of, form_named, form_text, filled_parts, fill}
use Rattle.std.proofs.lemmas.Bool.Decides.{nat_tests}

-- the item of a place is the first behind those before it
pub drop-got : {X : Type 0} (xs : List X) (place : ℕ) (x : X) → slice_get xs place ≡ Some x
    → drop place xs ≡ x ∷ drop (place + 1) xs
drop-got [] place x e = cc
drop-got (y ∷ ys) zero x e = let same : y ≡ x = cc in ap (λ z. z ∷ ys) same
drop-got (y ∷ ys) (suc place) x e = rw add-one (drop-got ys place x e ∙ ap (λ n. x ∷ drop n ys) (add-one place))

-- an item of a list of which each passes a test passes it
pub got-passes : {X : Type 0} (test : X → Bool) (xs : List X) (place : ℕ) (x : X) → list_all test xs ≡ true
    → slice_get xs place ≡ Some x → test x ≡ true
got-passes test [] place x all e = cc
got-passes test (y ∷ ys) zero x all e = grind (arith, e, all)
got-passes test (y ∷ ys) (suc place) x all e = grind (arith, got-passes test ys place x)

-- a form is a `#` and the character that names it
pub form_begun : (c next : ℕ) (form : NumberForm) → form_of c next ≡ Some form → (c ≡ 0x23)
    × (form_named next ≡ Some form)
form_begun c next form e = grind (arith, nat_tests)

-- a word that is filled with no number stays
pub fill_none : (word : List ℕ) → fill word [] [] ≡ word
fill_none [] = refl
fill_none (c ∷ []) = refl
fill_none (c ∷ next ∷ word) =
    grind (arith, form_begun c next, fill_none word, fill_none (next ∷ word))

-- a form that was written is filled with the next number
pub form_pushed : (old pushed after rest all : List ℕ) (c : ℕ) (form : NumberForm) (parts : List Part)
    (number first : List ℕ)
    (left left_firsts numbers firsts : List (List ℕ)) → left ≡ number ∷ numbers → left_firsts ≡ first ∷ firsts
    → pushed ++ filled_parts (stands c form ∷ parts) left left_firsts ≡ old ++ rest
    → after ≡ pushed ++ form_text form number first → old ++ rest ≡ all
    → after ++ filled_parts parts numbers firsts ≡ all
form_pushed old pushed after rest all c form parts number first left left_firsts numbers firsts is_left is_first
    is_pushed is_after whole =
    ap (λ text. text ++ filled_parts parts numbers firsts) is_after
    ∙ append_assoc pushed (form_text form number first) (filled_parts parts numbers firsts)
    ∙ ap (λ ns. pushed ++ filled_parts (stands c form ∷ parts) ns (first ∷ firsts)) (sym is_left)
    ∙ ap (λ fs. pushed ++ filled_parts (stands c form ∷ parts) left fs) (sym is_first) ∙ is_pushed ∙ whole

-- what is left of a word behind the last number stays
pub rest_pushed : (text pushed rest all : List ℕ) (left left_firsts : List (List ℕ)) → left ≡ [] → left_firsts ≡ []
    → pushed ≡ text ++ rest → text ++ fill rest left left_firsts ≡ all → pushed ≡ all
rest_pushed text pushed rest all left left_firsts none no_firsts is_pushed whole =
    is_pushed ∙ ap (λ end. text ++ end) (sym (fill_none rest)) ∙ ap (λ ns. text ++ fill rest ns []) (sym none)
    ∙ ap (λ fs. text ++ fill rest left fs) (sym no_firsts) ∙ whole
