-- What a filter keeps, and what a search finds.
use Rattle.std.proofs.Common.{◌≡◌, Bool, true, false, cond, ◌||◌, Some, Option, List, [], ◌∷◌, ◌++◌, All, refl, ap, ◌∙◌}
use Rattle.std.proofs.Common.{find, map}
use Rattle.std.specs.List.{cons_option, filter, filter_map, flat_map}
use Rattle.std.proofs.lemmas.List.Elements.{All-cons, All-head, All-nil, All-tail}
use Rattle.skk_text.specs.FilterLaws.{filter_all, list_all_kept}

-- a disjunction holds where its last part does
pub or_last : (a b c : Bool) → c ≡ true → (a || (b || c)) ≡ true
or_last true b c e = refl
or_last false true c e = refl
or_last false false c e = e

module _ {X : Type 0} (p : X → Bool) where
  -- to filter twice is to filter once
  pub filter_twice : (xs : List X) → filter p (filter p xs) ≡ filter p xs
  filter_twice xs = filter_all p (filter p xs) (list_all_kept p xs)

  -- the same is found where a filter leaves out what does not pass
  pub find-filter : (q : X → Bool) → ((x : X) → q x ≡ false → p x ≡ false) → (xs : List X)
      → find p (filter q xs) ≡ find p xs
  find-filter q so [] = refl
  find-filter q so (x ∷ xs) = by (q x) refl (find-filter q so xs)
    where
      by : (b : Bool) → q x ≡ b → find p (filter q xs) ≡ find p xs
          → find p (cond b (x ∷ filter q xs) (filter q xs)) ≡ cond (p x) (Some x) (find p xs)
      by true e rest = ap (λ (found : Option X). cond (p x) (Some x) found) rest
      by false e rest = rw (so x e) rest

-- what is made of each element that is kept is what is kept of what is made of each
pub map_filter : {X Y : Type 0} (f : X → Y) (q : Y → Bool) (xs : List X)
    → map f (filter (λ x. q (f x)) xs) ≡ filter q (map f xs)
map_filter f q [] = refl
map_filter {X} {Y} f q (x ∷ xs) = by (q (f x)) (map_filter f q xs)
  where
    by : (b : Bool) → map f (filter (λ y. q (f y)) xs) ≡ filter q (map f xs)
        → map f (cond b (x ∷ filter (λ y. q (f y)) xs) (filter (λ y. q (f y)) xs))
        ≡ cond b (f x ∷ filter q (map f xs)) (filter q (map f xs))
    by true rest = ap (λ (ys : List Y). f x ∷ ys) rest
    by false rest = rest

-- what is kept of what is made of each element is the same where the same is made of each
pub filter_map_alike : {X Y : Type 0} (f g : X → Option Y) (xs : List X) → All (λ x. f x ≡ g x) xs
    → filter_map f xs ≡ filter_map g xs
filter_map_alike f g [] same = refl
filter_map_alike f g (x ∷ xs) same =
    ap (λ y. cons_option y (filter_map f xs)) (All-head (λ y. f y ≡ g y) x xs same)
    ∙ ap (λ ys. cons_option (g x) ys) (filter_map_alike f g xs (All-tail (λ y. f y ≡ g y) x xs same))

-- so is what is made of them one after another
pub flat_map_alike : {X Y : Type 0} (f g : X → List Y) (xs : List X) → All (λ x. f x ≡ g x) xs
    → flat_map f xs ≡ flat_map g xs
flat_map_alike f g [] same = refl
flat_map_alike f g (x ∷ xs) same =
    ap (λ ys. ys ++ flat_map f xs) (All-head (λ y. f y ≡ g y) x xs same)
    ∙ ap (λ ys. g x ++ ys) (flat_map_alike f g xs (All-tail (λ y. f y ≡ g y) x xs same))

-- what follows of two things that all elements have, all have
pub all_both : {X : Type 0} (P Q R : X → Type 0) → ((x : X) → P x → Q x → R x) → (xs : List X) → All P xs → All Q xs
    → All R xs
all_both P Q R f [] p q = All-nil R
all_both P Q R f (x ∷ xs) p q =
    All-cons R x xs (f x (All-head P x xs p) (All-head Q x xs q))
    (all_both P Q R f xs (All-tail P x xs p) (All-tail Q x xs q))
