-- What a write of the first byte, or behind it, leaves of a file.
use Rattle.std.proofs.Common.{inl, inr, ℕ}
use Rattle.std.proofs.Common.{List, [], ◌∷◌, ◌++◌, length, get_or, drop}
use Rattle.std.proofs.Common.{refl, sym, ◌∙◌, ap, subst, arith, append_assoc}
use Rattle.std.specs.Prelude.{Option}
use Rattle.skk_disk.specs.Steps.{PartlyWritten, placed, IsPlaced}
use Rattle.skk_journal.specs.declared.live.Live.{Live}
use Rattle.std.specs.Int.{w64}
use Rattle.exact_readers.specs.Numbers.{number_bytes}
use Rattle.skk_journal.specs.Records.{mark_name, mark}
use Rattle.skk_journal.specs.Filling.{IsAged}
use Rattle.skk_journal.specs.Idle.{IsBlank, IsLoose, IsStray, OtherFirst, FirstIs}
use Rattle.skk_journal.proofs.Places.{torn_at, torn_behind, placed_behind, no_gap}

-- a torn write of the first byte
pub first_torn : (old new : List ℕ) → PartlyWritten (record { at = 0; count = 1 }) old new → OtherFirst old new
first_torn [] new torn = inl (omega arith, omega (arith, torn.at_most))
first_torn (first ∷ rest) new torn =
    inr (first, get_or new 0 0, rest, refl, torn_at 0 [] first rest new refl torn)

-- a whole one
pub first_placed : (first : ℕ) (old new : List ℕ) → IsPlaced 0 (first ∷ []) old new → FirstIs first old new
first_placed first old new whole =
    whole ∙ ap (λ (l : List ℕ). l ++ (first ∷ drop 1 old)) (no_gap 0 old (omega arith))

module _ (newest : ℕ) (beside : Option Live) where
  -- another first byte leaves a file that gives way whatever that is
  pub loose_other : (old new : List ℕ) → OtherFirst old new → IsLoose newest beside old → IsLoose newest beside new
  loose_other old new (inl (short, also)) loose = inl also
  loose_other old new (inr (first, next, rest, is, now)) (inl short) =
      inl (omega (arith, ap length is, ap length now))
  loose_other old new (inr (first, next, rest, is, now)) (inr (head, version, tail, also, right, gives)) =
      inr (next, version, tail, now ∙ ap (λ (l : List ℕ). next ∷ drop 1 l) (sym is ∙ also), right, gives)

-- the first byte 0 is blank
pub first_blank : (old new : List ℕ) → FirstIs 0 old new → IsBlank new
first_blank old new is = (drop 1 old, is)

-- a torn write behind the mark leaves a stray file
pub stray_torn : (newest count : ℕ) (old new : List ℕ) → PartlyWritten (record { at = 9; count = count }) old new
    → IsStray newest old → IsStray newest new
stray_torn newest count old new torn (first, version, rest, is, right, some, shut) = (
  first,
  version,
  drop 9 new,
  torn_behind 9 count (first ∷ mark_name) version rest new refl
      (subst (λ (l : List ℕ). PartlyWritten (record { at = 9; count = count }) l new) is torn),
  right,
  some,
  shut,
)

-- a whole one ages it
pub stray_placed : (newest generation : ℕ) (old new : List ℕ)
    → IsPlaced 9 (number_bytes w64 generation ++ 0 ∷ []) old new → IsStray newest old → IsAged newest generation new
stray_placed newest generation old new whole (first, version, rest, is, right, some, shut) =
    let piece = number_bytes w64 generation ++ 0 ∷ [] in
    let tail = drop (length piece) rest in (
      first,
      version,
      tail,
      whole ∙ ap (placed 9 piece) is
          ∙ placed_behind 9 piece (first ∷ mark_name) version rest refl
          ∙ ap (λ (l : List ℕ). first ∷ (mark version ++ l))
          (append_assoc (number_bytes w64 generation) (0 ∷ []) tail),
      right,
    )
