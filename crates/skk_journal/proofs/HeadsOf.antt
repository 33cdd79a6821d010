-- The first 17 bytes of a file say what its head is.
use Rattle.std.proofs.Common.{◌≡◌, ◌∙◌, ℕ, Bool, true, false, ◌&&◌, if◌then◌else◌, nat_le, None, Some}
use Rattle.std.proofs.Common.{◌≤◌, inl, inr, List, [], ◌∷◌, ◌++◌, length, take, drop, refl, ap, arith}
use Rattle.std.specs.Int.{w64}
use Rattle.std.specs.Str.{bytes_eq}
use Rattle.std.proofs.lemmas.Bool.{cases_lt}
use Rattle.std.proofs.lemmas.Bool.Decides.{nat_tests}
use Rattle.std.proofs.lemmas.List.{take-take, take_all, length-take, drop-take, take-append-le, get_or-take}
use Rattle.exact_readers.specs.Numbers.{are_bytes, number_of, number_step}
use Rattle.skk_journal.specs.Records.{mark_name}
use Rattle.skk_disk.specs.declared.which.Which.TheVariants.{A, B}
use Rattle.skk_journal.specs.declared.head.Head.{Head}
use Rattle.skk_journal.specs.declared.head.Head.TheVariants.{Fresh, Foreign, CutShort, Headed}
use Rattle.skk_journal.specs.Heads.{is_version, version_byte, is_marked, headed_by, head_of, HasVersion}
use Rattle.skk_journal.specs.ChoiceLaws.{judged, headed_marked}
use Rattle.skk_journal.specs.Generations.{first_counts}
use Rattle.skk_journal.specs.Choice.{lives, choice_of, ChoosesVersion}
use Rattle.skk_journal.specs.Idle.{idle_of}

-- the generation at the front of bytes, by the first eight
same_long : (bytes : List ℕ) → nat_le 8 (length (take 8 bytes)) ≡ nat_le 8 (length bytes)
same_long bytes = elim (cases_lt (length bytes) 8) [
  | inl less ↦ ap (λ (l : List ℕ). nat_le 8 (length l)) (take_all 8 bytes (omega arith))
  | inr more ↦ let full : length (take 8 bytes) ≡ 8 = omega (arith, length-take 8 bytes) in grind (arith, nat_tests)
]

headed : (version : ℕ) (long small : Bool) (n : ℕ) (rest left : List ℕ)
    → headed_by version (if long && small then Some (n, rest) else None)
    ≡ headed_by version (if long && small then Some (n, left) else None)
headed version true true n rest left = refl
headed version true false n rest left = refl
headed version false true n rest left = refl
headed version false false n rest left = refl

headed_by-take : (version : ℕ) (bytes : List ℕ)
    → headed_by version (number_step w64 (take 8 bytes)) ≡ headed_by version (number_step w64 bytes)
unfolding number_step
headed_by-take version bytes =
    let front : take 8 (take 8 bytes) ≡ take 8 bytes = take-take 8 8 bytes (omega arith) in
    ap (λ (b : Bool). headed_by version (if b && are_bytes (take 8 (take 8 bytes))
    then Some (number_of w64 (take 8 (take 8 bytes)), drop 8 (take 8 bytes)) else None)) (same_long bytes)
    ∙ ap (λ (l : List ℕ). headed_by version (if nat_le 8 (length bytes) && are_bytes l
    then Some (number_of w64 l, drop 8 (take 8 bytes)) else None)) front
    ∙ headed version (nat_le 8 (length bytes)) (are_bytes (take 8 bytes)) (number_of w64 (take 8 bytes))
    (drop 8 (take 8 bytes)) (drop 8 bytes)

pub head_of-take : (newest : ℕ) (file : List ℕ) → head_of newest (take 17 file) ≡ head_of newest file
head_of-take newest [] = refl
head_of-take newest (first ∷ []) = refl
head_of-take newest (first ∷ second ∷ rest) =
    let tail = second ∷ rest in
    let byte : version_byte (second ∷ take 15 rest) ≡ version_byte tail = get_or-take 15 rest 6 0 (omega arith) in
    let marked : is_marked newest (second ∷ take 15 rest) ≡ is_marked newest tail =
    ap (λ (l : List ℕ). bytes_eq (second ∷ l) mark_name && is_version newest (version_byte (second ∷ take 15 rest)))
    (take-take 6 15 rest (omega arith))
    ∙ ap (λ (n : ℕ). bytes_eq (take 7 tail) mark_name && is_version newest n) byte in
    let read : headed_by (version_byte (second ∷ take 15 rest)) (number_step w64 (drop 7 (take 15 rest)))
    ≡ headed_by (version_byte tail) (number_step w64 (drop 7 rest)) =
    ap (λ (n : ℕ). headed_by n (number_step w64 (drop 7 (take 15 rest)))) byte
    ∙ ap (λ (l : List ℕ). headed_by (version_byte tail) (number_step w64 l)) (drop-take 7 8 rest)
    ∙ headed_by-take (version_byte tail) (drop 7 rest) in
    λ i. judged first (marked i) (read i)

pub idle_of-take : (file : List ℕ) → idle_of (take 17 file) ≡ idle_of file
idle_of-take [] = refl
idle_of-take (first ∷ []) = refl
idle_of-take (first ∷ second ∷ rest) = refl

-- what was read of a file into 17 bytes at the front of a buffer
pub front_read : (n : ℕ) (into rest file : List ℕ) → length into ≡ 17 → n ≤ length into
    → take n into ≡ take (length into) file → take n (into ++ rest) ≡ take 17 file
front_read n into rest file long bound read =
    take-append-le n into rest bound ∙ read ∙ ap (λ (count : ℕ). take count file) long

-- a head that is whole has a right version
pub head_right : (newest : ℕ) (file : List ℕ) → HasVersion newest (head_of newest file)
head_right newest file = by (head_of newest file) refl
  where
    by : (head : Head) → head_of newest file ≡ head → HasVersion newest head
    by Fresh is = tt
    by (Foreign first) is = tt
    by CutShort is = tt
    by (Headed version generation) is = (headed_marked newest file version generation is).right

-- a file that is chosen by such heads has one
pub choice_right : (newest : ℕ) (first second : Head) → HasVersion newest first → HasVersion newest second
    → ChoosesVersion newest (choice_of first second)
choice_right newest (Foreign byte) second one two = tt
choice_right newest CutShort (Foreign byte) one two = tt
choice_right newest CutShort CutShort one two = tt
choice_right newest CutShort Fresh one two = tt
choice_right newest CutShort (Headed version own) one two = tt
choice_right newest Fresh (Foreign byte) one two = tt
choice_right newest Fresh CutShort one two = tt
choice_right newest Fresh Fresh one two = tt
choice_right newest Fresh (Headed version own) one two = two
choice_right newest (Headed version own) (Foreign byte) one two = tt
choice_right newest (Headed version own) CutShort one two = tt
choice_right newest (Headed version own) Fresh one two = one
choice_right newest (Headed version own) (Headed other older) one two = by (first_counts own older)
  where
    by : (b : Bool) → ChoosesVersion newest (if b then lives A version own else lives B other older)
    by true = one
    by false = two
