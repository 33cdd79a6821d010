-- Items of lists, as loops come by them.
use Rattle.std.proofs.Common.{◌≡◌, ◌∙◌, sym, ap, ℕ, ◌+◌, ◌<◌, Bool, true, List, [], ◌∷◌, ◌++◌, length, get_or, take}
use Rattle.std.proofs.Common.{append_assoc, flat_map}
use Rattle.std.proofs.lemmas.Bool.{true_from_ne_false}
use Rattle.std.proofs.lemmas.List.{append-nil, take_more}
use Rattle.std.proofs.lemmas.List.Concat.{flat_map-append}
use Rattle.std.proofs.lemmas.List.Folds.{list_all_at}
use Rattle.std.specs.List.{list_all}

-- what each item passes, the item at a place passes
pub all_at : {A : Type 0} (test : A → Bool) (xs : List A) (place : ℕ) (d : A) → place < length xs
    → list_all test xs ≡ true → test (get_or xs place d) ≡ true
all_at test xs place d within all =
    true_from_ne_false (test (get_or xs place d)) (λ no. cc (sym all ∙ list_all_at test xs place d within no))

-- what is made of one item more
pub flat_map_step : {A B : Type 0} (f : A → List B) (xs : List A) (place : ℕ) (d : A) → place < length xs
    → (before now next : List B) → now ≡ before ++ flat_map f (take place xs) → next ≡ now ++ f (get_or xs place d)
    → next ≡ before ++ flat_map f (take (place + 1) xs)
flat_map_step f xs place d within before now next is more =
    let first = take place xs in
    let last = get_or xs place d in
    more ∙ ap (λ bs. bs ++ f last) is ∙ append_assoc before (flat_map f first) (f last)
    ∙ ap (λ bs. before ++ bs) (sym (ap (flat_map f) (take_more xs place d within)
    ∙ flat_map-append f first (last ∷ []) ∙ ap (λ bs. flat_map f first ++ bs) (append-nil (f last))))
