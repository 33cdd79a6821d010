-- What a read puts behind the bytes that were read.
use Rattle.std.proofs.Common.{◌≡◌, ℕ, ◌+◌, ◌≤◌, List, ◌++◌, length, take, drop, Some, Result, Ok, Err, IfOk}
use Rattle.std.proofs.Common.{sym, ◌∙◌, ap, subst}
use Rattle.std.proofs.Math.Seq.{take-append-add, take-add}
use Rattle.std.proofs.lemmas.List.{take-append-le, drop-drop}
use Rattle.std.specs.Io.{ReadsAtMost}
use Rattle.skk_outside.specs.Shelves.{ReadsFrom}

behind : (a n : ℕ) (front ys post : List ℕ) → length front ≡ a → n ≤ length ys
    → take (a + n) (front ++ (ys ++ post)) ≡ front ++ take n ys
behind a n front ys post long within =
    subst (λ (m : ℕ). take (m + n) (front ++ (ys ++ post)) ≡ front ++ take n ys) long
    (take-append-add front (ys ++ post) n ∙ ap (λ (l : List ℕ). front ++ l) (take-append-le n ys post within))

-- what is read behind the bytes in front stands there in the file
pub read_behind : {E : Type 0} (result : Result ℕ E) (a place : ℕ) (front ys post file : List ℕ) → length front ≡ a
    → ReadsAtMost result ys → ReadsFrom (Some file) place result ys
    → IfOk result (λ n. take (a + n) (front ++ (ys ++ post)) ≡ front ++ take n (drop place file))
read_behind (Err e) a place front ys post file long within reads = tt
read_behind (Ok n) a place front ys post file long within reads =
    let same : take (length (take n ys)) (drop place file) ≡ take n ys = reads.0 in
    behind a n front ys post long within.0
    ∙ ap (λ (l : List ℕ). front ++ l)
    (sym same ∙ ap (λ (m : ℕ). take m (drop place file)) (sym within.1))

-- the bytes that were read, and those read behind them, are those from the place on
pub read_so_far : (at filled n : ℕ) (old new file : List ℕ) → take filled old ≡ take filled (drop at file)
    → take (filled + n) new ≡ take filled old ++ take n (drop (at + filled) file)
    → take (filled + n) new ≡ take (filled + n) (drop at file)
read_so_far at filled n old new file before more =
    more ∙ ap (λ (l : List ℕ). l ++ take n (drop (at + filled) file)) before
    ∙ ap (λ (l : List ℕ). take filled (drop at file) ++ take n l) (sym (drop-drop filled at file))
    ∙ sym (take-add filled n (drop at file))
