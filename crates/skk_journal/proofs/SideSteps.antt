-- What a step in one file leaves of a fact on both.
use Rattle.std.proofs.Common.{◌≡◌, inl, inr, ℕ, ◌≤◌, true}
use Rattle.std.proofs.Common.{List, [], ◌∷◌, ◌++◌, length, drop, sym, ◌∙◌, ap, subst, arith, append_assoc}
use Rattle.std.proofs.lemmas.Bool.{cases_eq}
use Rattle.std.proofs.lemmas.List.Elements.{All-nil}
use Rattle.std.specs.Prelude.{None, Some}
use Rattle.std.specs.Int.{w64}
use Rattle.exact_readers.specs.Numbers.{number_bytes}
use Rattle.skk_disk.specs.declared.which.Which.{Which}
use Rattle.skk_disk.specs.Image.{Image, part, other}
use Rattle.skk_disk.specs.Steps.{InFile, ComeFrom}
use Rattle.skk_journal.specs.declared.live.Live.{Live}
use Rattle.skk_journal.specs.declared.live.Idle.{Idle}
use Rattle.skk_journal.specs.declared.live.Idle.TheVariants.{Blank, Loose, Stray}
use Rattle.skk_journal.specs.Contents.{Contents, no_records}
use Rattle.skk_journal.specs.Records.{mark, IsSized, IsVersion, HasContents}
use Rattle.skk_journal.specs.Generations.{live_after}
use Rattle.skk_journal.specs.Heads.{is_fresh}
use Rattle.skk_journal.specs.Filling.{filled_bytes, IsReady}
use Rattle.skk_journal.specs.Idle.{GivesWay, IsIdle, IsLoose, OtherFirst, FirstIs, IsFreshAs}
use Rattle.skk_journal.specs.Images.{Each, Sides}
use Rattle.skk_journal.specs.Journal.{IsFilled}
use Rattle.skk_journal.specs.OpeningLaws.{has_marked}
use Rattle.skk_journal.specs.IdleLaws.{shut_fresh, short_fresh, marked_fresh}
use Rattle.skk_journal.specs.SideLaws.{other_other, old_gives_way}

module _ (file : Which) (before now : Image → Type 0) (R : List ℕ → List ℕ → Type 0) where
  -- a step in this file keeps what the other one has
  pub sides_on : (P Q T : List ℕ → Type 0) → ((old new : List ℕ) → R old new → P old → T new)
      → ComeFrom (InFile file R) before now → Each before (Sides file P Q) → Each now (Sides file T Q)
  sides_on P Q T step come each image left =
      let from = come image left in
      let was = each from.0 from.1 in
      record { this = step _ _ from.2.this was.this; that = subst Q (sym from.2.that) was.that }

  -- a step in the other file keeps what this one has
  pub sides_off : (P Q T : List ℕ → Type 0) (idle : Which) → idle ≡ other file
      → ((old new : List ℕ) → R old new → Q old → T new)
      → ComeFrom (InFile idle R) before now → Each before (Sides file P Q) → Each now (Sides file P T)
  sides_off P Q T idle is step come each image left =
      let from = come image left in
      let goes : InFile (other file) R from.0 image = subst (λ (f : Which). InFile f R from.0 image) is from.2 in
      let was = each from.0 from.1 in
      let same : part file image ≡ part file from.0 =
      subst (λ (f : Which). part f image ≡ part f from.0) (other_other file) goes.that in
      record { this = subst P (sym same) was.this; that = step _ _ goes.this was.that }

module _ (newest : ℕ) (live : Live) (contents : Contents) (file : List ℕ) where
  -- the file that was live gives way to the next one, whatever its first byte is
  pub old_loose : HasContents newest live.generation contents file
      → IsLoose newest (Some (live_after newest live)) file
  old_loose has =
      let marked = has_marked newest live.generation contents file has in
      inr (
        1,
        contents.version,
        number_bytes w64 live.generation ++ marked.rest,
        marked.is,
        marked.right,
        subst (λ (l : List ℕ). GivesWay newest (Some (live_after newest live)) l) marked.is
            (old_gives_way newest live contents file has),
      )

-- another first byte leaves a filled file so
pub filled_other : (newest : ℕ) (live : Live) (contents : Contents) (old new : List ℕ) → OtherFirst old new
    → IsFilled newest live contents old → IsFilled newest live contents new
filled_other newest live contents old new (inl (short, also)) (right, small, sized, (first, is)) =
    absurd (omega (arith, ap length is))
filled_other newest live contents old new (inr (first, next, rest, is, now)) (right, small, sized, (was, also)) =
    (right, small, sized, (next, now ∙ ap (λ (l : List ℕ). next ∷ drop 1 l) (sym is ∙ also)))

-- the first byte of one that is ready
pub ready_first : (first version generation : ℕ) (records old new : List ℕ) → FirstIs first old new
    → IsReady version generation records old → new ≡ filled_bytes first version generation records
ready_first first version generation records old new is ready = is ∙ ap (λ (l : List ℕ). first ∷ drop 1 l) ready

module _ (newest : ℕ) where
  -- a fresh file does not count
  pub fresh_as : (idle : Idle) (file : List ℕ) → IsFreshAs newest idle file → is_fresh newest file ≡ true
  fresh_as Blank file (rest, is) =
      subst (λ (l : List ℕ). is_fresh newest l ≡ true) (sym is) (shut_fresh newest rest)
  fresh_as Loose file is = short_fresh newest file is
  fresh_as Stray file (first, version, rest, is, right, some, shut) =
      subst (λ (l : List ℕ). is_fresh newest l ≡ true) (sym is) (marked_fresh newest first version rest right shut)

  module _ (some : 1 ≤ newest) where
    itself : IsVersion newest newest
    itself = (some, omega arith)

    -- the first file, filled with no records beside none
    pub first_has : (file : List ℕ) → file ≡ filled_bytes 1 newest 1 []
        → HasContents newest 1 (no_records newest) file
    first_has file is = record {
      gate = 0;
      rest = [];
      is = is ∙ ap (λ (l : List ℕ). 1 ∷ (mark newest ++ l)) (sym (append_assoc (number_bytes w64 1) [] (0 ∷ [])));
      right = itself;
      told = omega arith;
      sized = All-nil IsSized;
      closed = λ same. omega (arith, same);
    }

    -- the first file with no records, or with its gate still shut
    pub first_torn_idle : (old new : List ℕ) → OtherFirst old new → IsReady newest 1 [] old
        → IsIdle newest None new
    first_torn_idle old new (inl (short, also)) ready = absurd (omega (arith, ap length ready))
    first_torn_idle old new (inr (first, next, rest, is, now)) ready =
        let is_now : new ≡ filled_bytes next newest 1 [] =
        now ∙ ap (λ (l : List ℕ). next ∷ drop 1 l) (sym is ∙ ready) in
        elim (cases_eq next 1) [
          | inl is_open ↦
              inr (newest, 1, first_has new (is_now ∙ ap (λ (n : ℕ). filled_bytes n newest 1 []) is_open))
          | inr shut ↦
              inl (subst (λ (l : List ℕ). is_fresh newest l ≡ true) (sym is_now)
              (marked_fresh newest next newest (number_bytes w64 1 ++ 0 ∷ []) itself shut))
        ]
