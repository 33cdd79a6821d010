-- What holds of what there may be.
use Rattle.std.proofs.Common.{◌≡◌, refl, Bool, true, if◌then◌else◌, Option, Some, None}
use Rattle.std.specs.Option.{IfSome, IsSome, option_map, option_map_or, option_and_then}
use Rattle.std.proofs.lemmas.Bool.{cond_both}

-- what holds of everything holds of what there may be
pub IfSome-all : {X : Type 0} (known : Option X) (P : X → Type 0) → ((x : X) → P x) → IfSome known P
IfSome-all None P p = tt
IfSome-all (Some x) P p = p x

-- what there may be is what is there
pub IfSome-is : {X : Type 0} (known : Option X) → IfSome known (λ x. known ≡ Some x)
IfSome-is None = tt
IfSome-is (Some x) = refl

-- where there is something, what holds of it holds of one thing
pub some-of : {X : Type 0} {P : X → Type 0} (known : Option X) → IsSome known → IfSome known P → (x : X) × P x
some-of None some p = absurd (cc)
some-of (Some x) some p = (x, p)

-- what there may be, made of what there may be
pub IfSome-map : {X Y : Type 0} (P : Y → Type 0) (f : X → Y) (o : Option X) → IfSome o (λ x. P (f x))
    → IfSome (option_map f o) P
IfSome-map P f None p = tt
IfSome-map P f (Some x) p = p

pub IfSome-and_then : {X Y : Type 0} (P : Y → Type 0) (f : X → Option Y) (o : Option X) → IfSome o (λ x. IfSome (f x) P)
    → IfSome (option_and_then f o) P
IfSome-and_then P f None p = tt
IfSome-and_then P f (Some x) p = p

pub IfSome-map_or : {X Y : Type 0} (P : Y → Type 0) (f : X → Option Y) (o : Option X) (other : Option Y)
    → IfSome o (λ x. IfSome (f x) P) → IfSome other P → IfSome (option_map_or f o other) P
IfSome-map_or P f None other p q = q
IfSome-map_or P f (Some x) other p q = p

pub IfSome-if : {X : Type 0} (P : X → Type 0) (b : Bool) (x : X) → (b ≡ true → P x)
    → IfSome (if b then Some x else None) P
IfSome-if P b x p = cond_both b (Some x) None (λ o. IfSome o P) p (λ e. tt)
