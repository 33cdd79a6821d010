-- A list as it is gone through, one item after another.
use Rattle.std.proofs.Common.{◌≡◌, ◌∙◌, ◌<◌, ◌+◌, ℕ, Bool, true, false, if◌then◌else◌, Option, Some, List, [], ◌∷◌}
use Rattle.std.proofs.Common.{◌++◌}
use Rattle.std.proofs.Common.{find, length, get_or, drop, take, suc, sym, ap, arith, add-one, drop-cons}
use Rattle.std.specs.List.{cons_option, filter_map}
use Rattle.std.proofs.lemmas.Grind.{common_steps}
use Rattle.std.proofs.lemmas.List.{take_more}
use Rattle.std.proofs.lemmas.List.Elements.{filter_map-append}

-- what is left at a place begins with the item there
pub front : {X : Type 0} (xs : List X) (place : ℕ) (x : X) → place < length xs → x ≡ get_or xs place x
    → drop place xs ≡ x ∷ drop (place + 1) xs
front xs place x low is =
    rw add-one (drop-cons xs place x low ∙ ap (λ y. y ∷ drop (suc place) xs) (sym is))

-- a search passes an item that does not pass the test, and ends at one that does
pub passed : {X : Type 0} (p : X → Bool) (x : X) (xs : List X) → p x ≡ false → find p (x ∷ xs) ≡ find p xs
passed p x xs e = grind arith

pub ended : {X : Type 0} (p : X → Bool) (x : X) (xs : List X) → p x ≡ true → find p (x ∷ xs) ≡ Some x
ended p x xs e = grind arith

-- one of two things, by a test
pub if_true : {X : Type 0} (b : Bool) (x y : X) → b ≡ true → (if b then x else y) ≡ x
if_true b x y e = grind arith

pub if_false : {X : Type 0} (b : Bool) (x y : X) → b ≡ false → (if b then x else y) ≡ y
if_false b x y e = grind arith

-- what items give, and one more of them
pub given_more : {X Y : Type 0} (h : X → Option Y) (xs : List X) (place : ℕ) (x : X) (before after : List Y)
    (y : Option Y) → place < length xs → x ≡ get_or xs place x → before ≡ filter_map h (take place xs) → y ≡ h x
    → after ≡ before ++ cons_option y [] → after ≡ filter_map h (take (place + 1) xs)
given_more h xs place x before after y low is so_far given more =
    more
    ∙ ap (λ ys. ys ++ cons_option y []) so_far
    ∙ ap (λ o. filter_map h (take place xs) ++ cons_option o []) given
    ∙ sym (filter_map-append h (take place xs) (x ∷ []))
    ∙ ap (λ last. filter_map h (take place xs ++ last ∷ [])) is
    ∙ ap (filter_map h) (sym (take_more xs place x low))

pub ruleset given = (common_steps, filter_map-append)
