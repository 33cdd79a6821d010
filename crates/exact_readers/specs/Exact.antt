-- A format whose step reads what spells a value, and only that.
use Rattle.std.specs.Prelude.{◌≡◌, ◌<◌, Bool, true, Option, None, Some, List, ◌++◌, length}
use Rattle.exact_readers.specs.Formats.{Format, SpellsMany}

-- the front of the tokens spells the value, and the rest stands behind it
pub record Begins {X A : Type 0} (F : Format X A) (tokens : List X) (a : A) (rest : List X) : Type 0 where
  pub piece : List X
  pub spelled : F.Spells a piece
  pub tokens_are : tokens ≡ piece ++ rest

-- a format is exact
pub record IsExact {X A : Type 0} (F : Format X A) : Type 0 where
  -- what is read is spelled
  pub sound : (tokens : List X) (a : A) (rest : List X) → F.step tokens ≡ Some (a, rest) → Begins F tokens a rest
  -- what is spelled is read, whatever stands behind it
  pub complete : (piece : List X) (a : A) (rest : List X) → F.Spells a piece → F.step (piece ++ rest) ≡ Some (a, rest)
  -- a value takes a token at least
  pub takes : (piece : List X) (a : A) → F.Spells a piece → 0 < length piece

-- a function finds the value of which a token is one, and only that
pub record Finds {X A : Type 0} (R : A → X → Type 0) (f : X → Option A) : Type 0 where
  pub sound : (x : X) (a : A) → f x ≡ Some a → R a x
  pub complete : (x : X) (a : A) → R a x → f x ≡ Some a

-- what is printed of a value that passes the test spells it, so that it is read again
pub record IsPrinted {X A : Type 0} (F : Format X A) (test : A → Bool) (print : A → List X) : Type 0 where
  pub spells : (a : A) → test a ≡ true → F.Spells a (print a)

-- all tokens spell the value, or none
abbrev pub IsWhole : {X A : Type 0} → Format X A → List X → Option A → Type 0
IsWhole F tokens (Some a) = F.Spells a tokens
IsWhole {A = A} F tokens None = (a : A) → F.Spells a tokens → ⊥

-- all tokens spell the values, one behind another, or no values
abbrev pub AreAll : {X A : Type 0} → Format X A → List X → Option (List A) → Type 0
AreAll F tokens (Some values) = SpellsMany F.Spells values tokens
AreAll {A = A} F tokens None = (values : List A) → SpellsMany F.Spells values tokens → ⊥
