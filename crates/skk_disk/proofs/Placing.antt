-- Bytes that are put over those of a file which was filled up to their end are placed.
use Rattle.std.proofs.Common.{◌≡◌, ℕ, ◌+◌, ◌-◌, inl, inr, List, [], ◌++◌, length, take, drop, replicate}
use Rattle.std.proofs.Common.{sym, ◌∙◌, ap, arith, length-append}
use Rattle.std.proofs.Math.Seq.{take-append-add, take-append_seam, drop-append-add}
use Rattle.std.proofs.lemmas.Bool.{cases_lt}
use Rattle.std.proofs.lemmas.List.{append_assoc, take-append-le, take_all, drop_all, append-nil}
use Rattle.std.proofs.lemmas.List.{take-replicate, drop-replicate, drop-drop, length-replicate}
use Rattle.skk_disk.specs.Steps.{placed}
use Rattle.skk_disk.specs.FileLaws.{length_placed}

no_zeros : (m : ℕ) → m ≡ 0 → replicate {A = ℕ} m 0 ≡ []
no_zeros m none = ap (λ (k : ℕ). replicate {A = ℕ} k 0) none

head_of_filled : (at n : ℕ) (file : List ℕ)
    → take at (file ++ replicate (at + n - length file) 0) ≡ take at file ++ replicate (at - length file) 0
head_of_filled at n file = elim (cases_lt (length file) at) [
  | inl short ↦
      let zeros = replicate {A = ℕ} (at + n - length file) 0 in
      ap (λ (k : ℕ). take k (file ++ zeros)) (omega arith)
      ∙ take-append-add file zeros (at - length file)
      ∙ ap (λ (l : List ℕ). file ++ l) (take-replicate (at - length file) (at + n - length file) 0 (omega arith))
      ∙ ap (λ (l : List ℕ). l ++ replicate (at - length file) 0) (sym (take_all at file (omega arith)))
  | inr long ↦
      take-append-le at file (replicate (at + n - length file) 0) long
      ∙ sym (append-nil (take at file))
      ∙ ap (λ (l : List ℕ). take at file ++ l) (sym (no_zeros (at - length file) (omega arith)))
]

tail_of_filled : (len : ℕ) (file : List ℕ) → drop len (file ++ replicate (len - length file) 0) ≡ drop len file
tail_of_filled len file = elim (cases_lt (length file) len) [
  | inl short ↦
      let zeros = replicate {A = ℕ} (len - length file) 0 in
      ap (λ (k : ℕ). drop k (file ++ zeros)) (omega arith)
      ∙ drop-append-add file zeros (len - length file)
      ∙ drop-replicate (len - length file) (len - length file) 0
      ∙ no_zeros (len - length file - (len - length file)) (omega arith)
      ∙ sym (drop_all len file (omega arith))
  | inr long ↦
      ap (λ (l : List ℕ). drop len (file ++ l)) (no_zeros (len - length file) (omega arith))
      ∙ ap (λ (l : List ℕ). drop len l) (append-nil file)
]

placed_over : (at : ℕ) (bytes file : List ℕ) → let grown = file ++ replicate (at + length bytes - length file) 0 in
    take at grown ++ (bytes ++ drop (at + length bytes) grown) ≡ placed at bytes file
placed_over at bytes file =
    let n = length bytes in
    let grown = file ++ replicate {A = ℕ} (at + n - length file) 0 in
    ap (λ (l : List ℕ). take at grown ++ (bytes ++ l)) (tail_of_filled (at + n) file)
    ∙ ap (λ (l : List ℕ). l ++ (bytes ++ drop (at + n) file)) (head_of_filled at n file)
    ∙ append_assoc (take at file) (replicate (at - length file) 0) (bytes ++ drop (at + n) file)

-- a whole list that is put over the front of another one, as long as it, is all that is left
put_back : (len : ℕ) (whole rest is : List ℕ) → whole ≡ is → len ≡ length is
    → take len (whole ++ drop (length whole) rest) ≡ is
put_back len whole rest is same long =
    ap (λ (l : List ℕ). take len (l ++ drop (length l) rest)) same
    ∙ ap (λ (k : ℕ). take k (is ++ drop (length is) rest)) long
    ∙ take-append_seam is (drop (length is) rest)

module _ (at end len : ℕ) (bytes copied file grown part : List ℕ) where
  -- the list with the bytes in their place
  abbrev put : List ℕ
  put = take at part ++ (copied ++ drop (end - at) (drop at part))

  pub placed_in : end ≡ at + length bytes → copied ≡ bytes → part ≡ grown
      → grown ≡ file ++ replicate (end - length file) 0 → len ≡ length grown
      → take len (put ++ drop (length put) grown) ≡ placed at bytes file
  placed_in ends copies same grows long =
      let is : grown ≡ file ++ replicate (at + length bytes - length file) 0 =
      grows ∙ ap (λ (k : ℕ). file ++ replicate (k - length file) 0) ends in
      let tail : drop (end - at) (drop at part) ≡ drop (at + length bytes) part =
      drop-drop (end - at) at part ∙ ap (λ (k : ℕ). drop k part) (omega (arith, ends)) in
      let put_is : put ≡ placed at bytes file =
      ap (λ (l : List ℕ). take at part ++ (l ++ drop (end - at) (drop at part))) copies
      ∙ ap (λ (l : List ℕ). take at part ++ (bytes ++ l)) tail
      ∙ ap (λ (g : List ℕ). take at g ++ (bytes ++ drop (at + length bytes) g)) (same ∙ is)
      ∙ placed_over at bytes file in
      put_back len put grown (placed at bytes file) put_is
      (omega (
        arith,
        long,
        ends,
        length_placed at bytes file,
        ap length is,
        length-append file (replicate (at + length bytes - length file) 0),
        length-replicate {A = ℕ} (at + length bytes - length file) 0,
      ))
