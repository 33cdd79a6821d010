-- What writes behind the first byte, and a cut to it, leave of a blank file.
use Rattle.std.proofs.Common.{◌≡◌, inl, ℕ, ◌+◌, ◌-◌, ◌<◌, ◌≤◌, List, [], ◌∷◌, ◌++◌, length, get_or, take, drop}
use Rattle.std.proofs.Common.{replicate, sym, ◌∙◌, ap, arith, append_assoc}
use Rattle.std.proofs.lemmas.List.{append-nil, drop_more, take_at}
use Rattle.std.proofs.Math.ListN.{drop_of_length-le}
use Rattle.skk_disk.specs.Steps.{PartlyWritten, PartlyCut, placed}
use Rattle.std.specs.Int.{w64}
use Rattle.exact_readers.specs.Numbers.{number_bytes}
use Rattle.exact_readers.specs.NumberLaws.{told_64}
use Rattle.skk_journal.specs.Records.{mark}
use Rattle.skk_journal.specs.Filling.{filled_bytes}
use Rattle.skk_journal.specs.Idle.{IsBlank}
use Rattle.skk_journal.proofs.Places.{no_gap}

-- a list with a first byte
first_of : (file : List ℕ) → 0 < length file → file ≡ get_or file 0 0 ∷ drop 1 file
first_of file some = drop_more file 0 0 some

pub blank_torn : (at count : ℕ) (old new : List ℕ) → 1 ≤ at
    → PartlyWritten (record { at = at; count = count }) old new → IsBlank old → IsBlank new
blank_torn at count old new behind torn (rest, is) =
    let long = ap length is in
    let same : get_or new 0 0 ≡ 0 = torn.kept 0 (omega (arith, long)) (inl (omega (arith, behind)))
    ∙ ap (λ (l : List ℕ). get_or l 0 0) is in
    (drop 1 new, first_of new (omega (arith, long, torn.at_least)) ∙ ap (λ (n : ℕ). n ∷ drop 1 new) same)

pub blank_cut : (old new : List ℕ) → PartlyCut 1 old new → IsBlank old → IsBlank new
blank_cut old new torn (rest, is) =
    let long = ap length is in
    let same : get_or new 0 0 ≡ 0 = torn.kept 0 (omega (arith, long)) ∙ ap (λ (l : List ℕ). get_or l 0 0) is in
    (drop 1 new, first_of new (omega (arith, long, torn.at_least)) ∙ ap (λ (n : ℕ). n ∷ drop 1 new) same)

-- bytes that are placed at the end
pub placed_end : (at : ℕ) (bytes file : List ℕ) → length file ≡ at → placed at bytes file ≡ file ++ bytes
placed_end at bytes file long =
    let head : take at file ≡ file =
    ap (λ (l : List ℕ). take at l) (sym (append-nil file)) ∙ take_at file [] at long in
    let none : drop (at + length bytes) file ≡ [] = drop_of_length-le file (omega (arith, long)) in
    ap (λ (l : List ℕ). l ++ (replicate (at - length file) 0 ++ (bytes ++ drop (at + length bytes) file))) head
    ∙ ap (λ (l : List ℕ). file ++ (l ++ (bytes ++ drop (at + length bytes) file))) (no_gap at file (omega (
      arith,
      long,
    )))
    ∙ ap (λ (l : List ℕ). file ++ (bytes ++ l)) none ∙ ap (λ (l : List ℕ). file ++ l) (append-nil bytes)

-- the parts of a filled file
pub filled_is : (version generation : ℕ) (records : List ℕ)
    → ((0 ∷ (mark version ++ number_bytes w64 generation)) ++ records) ++ 0 ∷ []
    ≡ filled_bytes 0 version generation records
filled_is version generation records =
    ap (λ (l : List ℕ). 0 ∷ (mark version ++ l)) (append_assoc (number_bytes w64 generation) records (0 ∷ []))

-- a head has 17 bytes
pub length-head : (version generation : ℕ) → length (0 ∷ (mark version ++ number_bytes w64 generation)) ≡ 17
length-head version generation = omega (arith, told_64.long generation)
